use Rattle.std.proofs.Common.{◌≡◌, [], take}
use Rattle.std.specs.Prelude.{flat_map}
use Rattle.lx_csr.specs.Faults.{field_faults}
use Rattle.lx_csr.proofs.faults.check_field.Given as goal

abbrev pub invariant-loop-earlier : goal.invariant-loop-earlier
invariant-loop-earlier l = flat_map (field_faults l.later) (take l.earlier-index l.before) ≡ []
