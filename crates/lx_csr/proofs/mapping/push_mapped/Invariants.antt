use Rattle.std.proofs.Common.{◌≡◌, ◌++◌, map, take}
use Rattle.lx_csr.specs.Mapped.{mapped}
use Rattle.lx_csr.proofs.mapping.push_mapped.Given as goal

abbrev pub invariant-loop-register : goal.invariant-loop-register
invariant-loop-register l = l.list ≡ l.initial.list ++ map (mapped l.start l.number) (take l.register-index l.registers)
