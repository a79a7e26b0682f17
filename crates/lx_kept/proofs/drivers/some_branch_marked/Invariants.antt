use Rattle.std.proofs.Common.{◌≡◌, drop, length, IsTrue}
use Rattle.lx_fhdl.specs.Below.{all_branches_below}
use Rattle.lx_kept.specs.Drivers.{some_branch_marked}
use Rattle.lx_kept.proofs.drivers.some_branch_marked.Given as goal

abbrev pub invariant-loop-branch : goal.invariant-loop-branch
invariant-loop-branch l = record { rest : some_branch_marked l.marks (drop l.branch-index l.branches) ≡ some_branch_marked l.marks l.branches; lower : IsTrue (all_branches_below (length l.marks) (drop l.branch-index l.branches)) }
