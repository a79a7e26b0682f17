use Rattle.std.proofs.Common.{◌≡◌, ◌++◌, drop}
use Rattle.lx_ops.proofs.operators.append.Given as goal

abbrev pub invariant-loop-item : goal.invariant-loop-item
invariant-loop-item g l = (l.into ++ drop l.item-index l.items) ≡ (l.initial.into ++ l.items)
