use Rattle.std.proofs.Common.{◌≡◌, ◌++◌, Some, length}
use Rattle.lx_fragments.specs.Laying.{chain}
use Rattle.lx_fragments.proofs.laying.chain.Given as goal

abbrev pub invariant-loop-left : goal.invariant-loop-left
invariant-loop-left l = l.places.items ++ chain l.machine.made l.left l.next ≡ chain l.machine.made (length l.machine.made) (Some l.last)

abbrev pub decreases-loop-left : goal.decreases-loop-left
decreases-loop-left l = l.left
