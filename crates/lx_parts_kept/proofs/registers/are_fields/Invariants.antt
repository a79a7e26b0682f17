use Rattle.std.proofs.Common.{◌≡◌, drop}
use Rattle.std.specs.List.{list_all}
use Rattle.lx_description.specs.Kept.{is_field}
use Rattle.lx_parts_kept.proofs.registers.are_fields.Given as goal

abbrev pub invariant-loop-field : goal.invariant-loop-field
invariant-loop-field l = list_all (is_field l.size) (drop l.field-index l.fields) ≡ list_all (is_field l.size) l.fields
