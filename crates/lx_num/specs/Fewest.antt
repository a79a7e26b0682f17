-- The fewest bits that hold a whole number.
use Rattle.std.specs.Prelude.{ℕ, ℤ, pos, negsuc, Bool, true, false, ◌≤◌}
use Rattle.lx_num.specs.Ints.{FitsBits}

-- whether z is below 0
abbrev pub below_zero : ℤ → Bool
below_zero (pos a) = false
below_zero (negsuc a) = true

-- z, or -z - 1 where z is below 0
abbrev pub magnitude_of : ℤ → ℕ
magnitude_of (pos a) = a
magnitude_of (negsuc a) = a

-- n is the least number of bits, at least 1, of which z is a value: signed where z is below 0
pub record IsFewestBits (z : ℤ) (n : ℕ) : Type 0 where
  pub some : 1 ≤ n
  pub enough : FitsBits n (below_zero z) z
  pub fewest : (k : ℕ) → 1 ≤ k → FitsBits k (below_zero z) z → n ≤ k
