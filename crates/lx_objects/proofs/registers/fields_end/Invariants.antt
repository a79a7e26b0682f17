use Rattle.std.proofs.Common.{◌≡◌, drop, max}
use Rattle.lx_objects.specs.Registers.{fields_end}
use Rattle.lx_objects.proofs.registers.fields_end.Given as goal

abbrev pub invariant-loop-field : goal.invariant-loop-field
invariant-loop-field l = max l.end (fields_end (drop l.field-index l.fields)) ≡ fields_end l.fields
