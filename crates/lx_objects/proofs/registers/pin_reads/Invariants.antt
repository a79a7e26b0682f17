use Rattle.std.proofs.Common.{◌≡◌, ◌++◌, drop}
use Rattle.lx_objects.specs.Registers.{pin_reads}
use Rattle.lx_objects.proofs.registers.pin_reads.Given as goal

abbrev pub invariant-loop-pin : goal.invariant-loop-pin
invariant-loop-pin l = l.reads ++ pin_reads (drop l.pin-index l.pins) ≡ pin_reads l.pins
