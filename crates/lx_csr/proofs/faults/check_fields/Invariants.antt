use Rattle.std.proofs.Common.{◌≡◌, [], take}
use Rattle.std.specs.Prelude.{flat_map}
use Rattle.lx_csr.specs.Faults.{bank_faults}
use Rattle.lx_csr.proofs.faults.check_fields.Given as goal

abbrev pub invariant-loop-bank : goal.invariant-loop-bank
invariant-loop-bank l = flat_map bank_faults (take l.bank-index l.banks) ≡ []
