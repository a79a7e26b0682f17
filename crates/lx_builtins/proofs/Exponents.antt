-- The exponent of a power of 2, from the last one downward.
use Rattle.std.proofs.Common.{◌≡◌, ◌∙◌, true, false, ℕ, zero, suc, ◌+◌, ◌^◌, Some, None, nat_eq, refl, arith, if◌then◌else◌}
use Rattle.lx_builtins.specs.Numbers.{exponent_below}

exponent_down : (z n k : ℕ) → n ≡ k + 1 → exponent_below z n ≡ (if nat_eq z (2 ^ k) then Some k else exponent_below z k)
unfolding exponent_below
exponent_down z zero k e = absurd (omega (arith, e))
exponent_down z (suc n) k e = let same : n ≡ k = omega (arith, e) in rw same refl

pub found_at : (z n k : ℕ) → n ≡ k + 1 → nat_eq z (2 ^ k) ≡ true → exponent_below z n ≡ Some k
found_at z n k e h = exponent_down z n k e ∙ rw h refl

pub passed_by : (z n k : ℕ) → n ≡ k + 1 → nat_eq z (2 ^ k) ≡ false → exponent_below z n ≡ exponent_below z k
passed_by z n k e h = exponent_down z n k e ∙ rw h refl

pub exponent_none : (z n : ℕ) → n ≡ 0 → exponent_below z n ≡ None
unfolding exponent_below
exponent_none z zero e = refl
exponent_none z (suc n) e = absurd (omega (arith, e))
