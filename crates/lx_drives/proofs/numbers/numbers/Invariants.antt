use Rattle.std.proofs.Common.{◌≡◌}
use Rattle.lx_drives.proofs.Counted.{NumbersTo}
use Rattle.lx_drives.proofs.numbers.numbers.Given as goal

abbrev pub invariant-loop-node : goal.invariant-loop-node
invariant-loop-node l = (l.node-items ≡ l.design.exprs) × NumbersTo l.design.exprs l.node-index l.numbers l.next
