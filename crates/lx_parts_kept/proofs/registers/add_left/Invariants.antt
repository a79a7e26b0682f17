use Rattle.std.proofs.Common.{◌≡◌, ◌++◌, drop, map}
use Rattle.lx_description.specs.Wires.{left}
use Rattle.lx_description.specs.declared.registers.Field.{Field}
use Rattle.lx_parts_kept.proofs.registers.add_left.Given as goal

abbrev pub invariant-loop-field : goal.invariant-loop-field
invariant-loop-field l = l.all ++ map (λ (f : Field). left f.size f.reset) (drop l.field-index l.fields) ≡ l.initial.all ++ map (λ (f : Field). left f.size f.reset) l.fields
