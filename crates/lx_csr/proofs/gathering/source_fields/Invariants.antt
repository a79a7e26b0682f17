use Rattle.std.proofs.Common.{◌≡◌, take}
use Rattle.lx_csr.specs.Collected.{source_fields}
use Rattle.lx_csr.proofs.gathering.source_fields.Given as goal

abbrev pub invariant-loop-i : goal.invariant-loop-i
invariant-loop-i l = l.fields ≡ source_fields 0 (take l.i l.sources)
