use Rattle.std.proofs.Common.{◌≡◌, drop, length, max, IsTrue}
use Rattle.lx_description.specs.Below.{all_fsm_branches_below}
use Rattle.lx_fsm_kept.specs.Depths.{deepest_branch}
use Rattle.lx_fsm_kept.proofs.depths.deepest_branch.Given as goal

abbrev pub invariant-loop-branch : goal.invariant-loop-branch
invariant-loop-branch l = record { rest : max l.deep (deepest_branch l.depths (drop l.branch-index l.branches)) ≡ deepest_branch l.depths l.branches; lower : IsTrue (all_fsm_branches_below (length l.depths) (drop l.branch-index l.branches)) }
