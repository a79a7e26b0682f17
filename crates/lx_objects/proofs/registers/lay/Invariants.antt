use Rattle.std.proofs.Common.{◌≡◌, ◌≤◌, ◌++◌, drop}
use Rattle.lx_objects.specs.Registers.{fields_end, laid}
use Rattle.lx_objects.proofs.registers.lay.Given as goal

abbrev pub invariant-loop-field : goal.invariant-loop-field
invariant-loop-field l = (l.done ++ laid l.end (drop l.field-index l.fields) ≡ laid 0 l.fields) × ((fields_end l.done ≤ 64) × (l.end ≤ 64))
