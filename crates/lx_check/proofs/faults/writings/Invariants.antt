use Rattle.std.proofs.Common.{◌≡◌, length, map, take}
use Rattle.std.specs.Prelude.{IsTrue}
use Rattle.lx_check.specs.Faults.{writings}
use Rattle.lx_check.specs.Marks.{are_below}
use Rattle.lx_reads.specs.Net.{driving_of}
use Rattle.lx_check.proofs.faults.writings.Given as goal

abbrev pub invariant-loop-port : goal.invariant-loop-port
invariant-loop-port l = (l.port-items ≡ l.design.ports) × ((map driving_of l.list ≡ writings (take l.port-index l.port-items)) × IsTrue (are_below (length l.design.memories) l.list))
