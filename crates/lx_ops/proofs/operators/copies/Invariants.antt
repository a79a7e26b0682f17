use Rattle.std.proofs.Common.{◌≡◌}
use Rattle.lx_ops.specs.Binary.{copies}
use Rattle.lx_ops.proofs.operators.copies.Given as goal

abbrev pub invariant-loop : goal.invariant-loop
invariant-loop l = l.list ≡ copies l.counter l.items
