use Rattle.std.proofs.Common.{◌≡◌, take}
use Rattle.lx_memory.proofs.copies.copied_branches.Given as goal

abbrev pub invariant-loop-branch : goal.invariant-loop-branch
invariant-loop-branch l = l.list ≡ take l.branch-index l.branches
