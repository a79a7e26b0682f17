use Rattle.std.proofs.Common.{◌≡◌, ◌++◌, drop}
use Rattle.lx_objects.specs.Registers.{pin_signals}
use Rattle.lx_objects.proofs.registers.pin_signals.Given as goal

abbrev pub invariant-loop-pin : goal.invariant-loop-pin
invariant-loop-pin l = l.signals ++ pin_signals (drop l.pin-index l.pins) ≡ pin_signals l.pins
