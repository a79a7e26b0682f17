use Rattle.std.proofs.Common.{◌≡◌, ◌+◌, drop}
use Rattle.lx_ops.specs.Attributes.{field_names, place_among}
use Rattle.lx_ops.proofs.attributes.field_place.Given as goal

abbrev pub invariant-loop-place : goal.invariant-loop-place
invariant-loop-place l = place_among (l.first + l.place) l.name (field_names (drop l.place l.fields)) ≡ place_among l.first l.name (field_names l.fields)
