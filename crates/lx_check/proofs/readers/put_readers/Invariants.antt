use Rattle.std.proofs.Common.{◌≡◌, length, take}
use Rattle.lx_check.specs.Marks.{AreReaders}
use Rattle.lx_check.proofs.readers.put_readers.Given as goal

abbrev pub invariant-loop-port : goal.invariant-loop-port
invariant-loop-port l = (l.port-items ≡ l.design.ports) × AreReaders (length l.design.signals) (take l.port-index l.port-items) l.readers
