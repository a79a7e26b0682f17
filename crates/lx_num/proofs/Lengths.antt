-- The number of bits below which all bits of a number lie.
use Rattle.std.proofs.Common.{◌≡◌, ℕ, ◌+◌, ◌*◌, ◌^◌, ◌<◌, ◌≤◌, ap, ◌∙◌, arith, inl, inr}
use Rattle.std.proofs.Math.Nat.{pow-le-pow_right, two-pow-succ}
use Rattle.std.proofs.lemmas.Bool.{cases_lt}

-- a number of m bits does not go into fewer
pub no_fewer : (v m k : ℕ) → v < 2 ^ k → 2 ^ m ≤ 2 * v + 1 → m ≤ k
no_fewer v m k p q =
    elim (cases_lt k m) [
      | inl h ↦
          let two : 0 < 2 = omega arith in
          let g : k + 1 ≤ m = omega arith in
          let e = pow-le-pow_right two g in
          let d : 2 ^ (k + 1) ≡ 2 ^ k + 2 ^ k = ap (λ (j : ℕ). 2 ^ j) (omega arith) ∙ two-pow-succ k in
          omega arith
      | inr h ↦ h
    ]
