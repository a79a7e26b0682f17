use Rattle.std.proofs.Common.{◌≡◌, take}
use Rattle.lx_csr.proofs.gathering.copied_fields.Given as goal

abbrev pub invariant-loop-field : goal.invariant-loop-field
invariant-loop-field l = l.copied ≡ take l.field-index l.fields
