use Rattle.std.proofs.Common.{◌≡◌, ◌++◌, take}
use Rattle.std.specs.Prelude.{flat_map}
use Rattle.lx_csr.specs.Defined.{register_names}
use Rattle.lx_csr.proofs.defining.push_bank.Given as goal

abbrev pub invariant-loop-register : goal.invariant-loop-register
invariant-loop-register l = l.names ≡ l.initial.names ++ flat_map register_names (take l.register-index l.register-items)
