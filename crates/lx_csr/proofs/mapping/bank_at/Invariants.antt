use Rattle.std.proofs.Common.{◌≡◌, ℕ, drop}
use Rattle.lx_csr.specs.Mapped.{numbered}
use Rattle.lx_csr.proofs.mapping.bank_at.Given as goal

abbrev pub invariant-loop-i : goal.invariant-loop-i
invariant-loop-i l = (base : ℕ) → numbered base l.given l.banks l.number ≡ numbered base (drop l.i l.given) (drop l.i l.banks) l.number
