use Rattle.std.proofs.Common.{ℕ, ◌<◌}
use Rattle.lx_csr.specs.Mapped.{IsAt}
use Rattle.lx_csr.proofs.registers.RegisterMap.find.Given as goal

abbrev pub invariant-loop-i : goal.invariant-loop-i
invariant-loop-i l = (k : ℕ) → k < l.i → (j : ℕ) → IsAt l.self l.addr k j → ⊥
