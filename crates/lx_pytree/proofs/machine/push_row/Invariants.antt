use Rattle.std.proofs.Common.{◌≡◌, ◌≤◌, ◌++◌, drop, length, reverse, map}
use Rattle.lx_pytree.specs.declared.machine.Step.TheVariants.{Do}
use Rattle.lx_pytree.proofs.machine.push_row.Given as goal

abbrev pub invariant-loop-left : goal.invariant-loop-left
invariant-loop-left l = (l.left ≤ length l.row) × (reverse l.pending.items ≡ map Do (drop l.left l.row) ++ reverse l.initial.pending.items)

abbrev pub decreases-loop-left : goal.decreases-loop-left
decreases-loop-left l = l.left
