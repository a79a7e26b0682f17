use Rattle.std.proofs.Common.{◌≡◌, length}
use Rattle.lx_memory.proofs.Apart.{Marked}
use Rattle.lx_memory.proofs.alone.put_all.Given as goal

abbrev pub invariant-loop-port : goal.invariant-loop-port
invariant-loop-port l = (l.port-items ≡ l.design.ports) × Marked (length l.design.signals) l.port-items l.port-index l.marks l.apart
