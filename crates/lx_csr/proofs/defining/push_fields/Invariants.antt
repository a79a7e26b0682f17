use Rattle.std.proofs.Common.{◌≡◌, ◌++◌, take}
use Rattle.std.specs.Prelude.{flat_map}
use Rattle.lx_csr.specs.Defined.{field_names}
use Rattle.lx_csr.proofs.defining.push_fields.Given as goal

abbrev pub invariant-loop-field : goal.invariant-loop-field
invariant-loop-field l = l.names ≡ l.initial.names ++ flat_map (field_names l.register) (take l.field-index l.field-items)
