-- What division and powers mean, in terms of sums and products alone.
use Rattle.std.specs.Prelude.{◌≡◌, ℕ, ℤ, pos, ◌+◌, ◌+ℤ◌, ◌*ℤ◌, ◌<◌, ◌<ℤ◌, ◌≤ℤ◌, unsigned_abs}
use Rattle.std.specs.Int.{int_pow}
use Rattle.lx_value.specs.Numbers.{floor_quotient, floor_remainder}

-- q is a / b rounded down, and r is what is left: r lies between 0 and b, and isn't b
pub record IsFloorDivision (a b q r : ℤ) : Type 0 where
  pub whole : a ≡ ((q *ℤ b) +ℤ r)
  pub upward : pos 0 <ℤ b → (pos 0 ≤ℤ r) × (r <ℤ b)
  pub downward : b <ℤ pos 0 → (b <ℤ r) × (r ≤ℤ pos 0)

abbrev pub DivisionRoundsDown : Type 0
DivisionRoundsDown = (a b : ℤ) → 0 < unsigned_abs b → IsFloorDivision a b (floor_quotient a b) (floor_remainder a b)

abbrev pub PowersMultiply : Type 0
PowersMultiply = (a : ℤ) → (int_pow a 0 ≡ pos 1) × ((n : ℕ) → int_pow a (n + 1) ≡ (int_pow a n *ℤ a))
