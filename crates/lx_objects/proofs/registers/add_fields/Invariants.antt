use Rattle.std.proofs.Common.{◌≡◌, ◌++◌, drop, map}
use Rattle.lx_objects.specs.Registers.{field_part, field_wire, part_of, wire_of}
use Rattle.lx_objects.proofs.registers.add_fields.Given as goal

abbrev pub invariant-loop-field : goal.invariant-loop-field
invariant-loop-field l =
    (map wire_of l.plans ++ map (field_wire l.given) (drop l.field-index l.fields) ≡ map wire_of l.initial.plans ++ map (field_wire l.given) l.fields)
    × (map part_of l.plans ++ map field_part (drop l.field-index l.fields) ≡ map part_of l.initial.plans ++ map field_part l.fields)
