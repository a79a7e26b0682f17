use Rattle.std.proofs.Common.{◌≡◌, ◌++◌, take}
use Rattle.std.specs.Prelude.{flat_map}
use Rattle.lx_csr.specs.Defined.{bank_names}
use Rattle.lx_csr.proofs.defining.push_banks.Given as goal

abbrev pub invariant-loop-bank : goal.invariant-loop-bank
invariant-loop-bank l = l.names ≡ l.initial.names ++ flat_map bank_names (take l.bank-index l.banks)
