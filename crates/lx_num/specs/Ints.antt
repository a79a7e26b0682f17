-- Whole numbers, the patterns of bits that stand for them, and the ranges of shapes.
use Rattle.std.specs.Prelude.{ℕ, ℤ, pos, negsuc, Bool, true, false, ◌-◌, ◌/◌, ◌%◌, ◌^◌, ◌≤ℤ◌, ◌<ℤ◌, ◌-ℤ◌, cond, nat_le}
use Rattle.std.proofs.Common.{neg_ℤ}
use Rattle.lx_num.specs.declared.Shape.{Shape}

-- z modulo m, from 0 to m - 1
abbrev pub modulo : ℤ → ℕ → ℕ
modulo (pos a) m = a % m
modulo (negsuc a) m = m - 1 - a % m

-- the greatest whole number that is at most z / m
abbrev pub floor_div : ℤ → ℕ → ℤ
floor_div (pos a) m = pos (a / m)
floor_div (negsuc a) m = negsuc (a / m)

-- the least value of n bits
abbrev pub lowest : ℕ → Bool → ℤ
lowest n true = neg_ℤ (pos (2 ^ (n - 1)))
lowest n false = pos 0

-- one more than the greatest value of n bits
abbrev pub past : ℕ → Bool → ℤ
past n true = pos (2 ^ (n - 1))
past n false = pos (2 ^ n)

-- z is a value of n bits
pub record FitsBits (n : ℕ) (signed : Bool) (z : ℤ) : Type 0 where
  pub low : lowest n signed ≤ℤ z
  pub high : z <ℤ past n signed

-- the number that a pattern of n bits stands for
abbrev pub read_bits : ℕ → Bool → ℕ → ℤ
read_bits n true p = cond (nat_le (2 ^ (n - 1)) p) (pos p -ℤ pos (2 ^ n)) (pos p)
read_bits n false p = pos p

-- the one value of n bits that equals z modulo 2 ^ n
abbrev pub wrap_bits : ℕ → Bool → ℤ → ℤ
wrap_bits n signed z = read_bits n signed (modulo z (2 ^ n))

-- the number that the len bits of z from low on stand for, unsigned
abbrev pub field_of : ℤ → ℕ → ℕ → ℕ
field_of z low len = modulo (floor_div z (2 ^ low)) (2 ^ len)

-- z is a value of the shape
abbrev pub Fits : Shape → ℤ → Type 0
Fits s z = FitsBits s.bits s.signed z

-- the one value of the shape that equals z modulo 2 to its bits
abbrev pub wrapped : Shape → ℤ → ℤ
wrapped s z = wrap_bits s.bits s.signed z

-- a shape of so many bits
abbrev pub shape : ℕ → Bool → Shape
shape n signed = record { bits = n; signed = signed }

abbrev pub unsigned : ℕ → Shape
unsigned n = shape n false
