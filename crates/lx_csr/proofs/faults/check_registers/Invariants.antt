use Rattle.std.proofs.Common.{◌≡◌, [], take}
use Rattle.std.specs.Prelude.{flat_map}
use Rattle.lx_csr.specs.Faults.{register_faults}
use Rattle.lx_csr.proofs.faults.check_registers.Given as goal

abbrev pub invariant-loop-register : goal.invariant-loop-register
invariant-loop-register l = flat_map register_faults (take l.register-index l.registers) ≡ []
