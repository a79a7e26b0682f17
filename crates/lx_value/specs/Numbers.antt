-- Python's operators on whole numbers, within the range that a description may use.
use Rattle.std.specs.Prelude.{ℕ, ℤ, pos, negsuc, suc, ◌+ℤ◌, ◌-ℤ◌, ◌*ℤ◌, ◌^◌, ◌<◌, Result, Ok, Err, unsigned_abs, int_lt, nat_lt, nat_eq, if◌then◌else◌}
use Rattle.std.proofs.Common.{neg_ℤ}
use Rattle.std.specs.Int.{int_pow}
use Rattle.lx_num.specs.Ints.{floor_div}
use Rattle.lx_num.specs.Bits.{int_and, int_or, int_xor}
use Rattle.lx_value.specs.declared.numbers.PyOp.{PyOp}
use Rattle.lx_value.specs.declared.numbers.PyOp.TheVariants as op
use Rattle.lx_value.specs.declared.numbers.NumFault.{NumFault}
use Rattle.lx_value.specs.declared.numbers.NumFault.TheVariants.{DivZero, NumberRange}

-- z is an integer of a description: it lies from -(2 ^ 127 - 1) to 2 ^ 127 - 1
abbrev pub IsInteger : ℤ → Type 0
IsInteger z = unsigned_abs z < 2 ^ 127

-- z, where it is an integer of a description
abbrev pub ranged : ℤ → Result ℤ NumFault
ranged z = if nat_lt (unsigned_abs z) (2 ^ 127) then Ok z else Err NumberRange

-- the greatest whole number that is at most a / b; a / -n is -a / n
abbrev pub floor_quotient : ℤ → ℤ → ℤ
floor_quotient a (pos n) = floor_div a n
floor_quotient a (negsuc n) = floor_div (neg_ℤ a) (suc n)

-- what is left of a, with the sign of b
abbrev pub floor_remainder : ℤ → ℤ → ℤ
floor_remainder a b = a -ℤ (floor_quotient a b *ℤ b)

-- z, as the outcome of a division by b
abbrev pub divided : ℤ → ℤ → Result ℤ NumFault
divided b z = if nat_eq (unsigned_abs b) 0 then Err DivZero else ranged z

-- what f gives at an exponent or a number of places, which may not be negative
abbrev pub counted : (ℕ → ℤ) → ℤ → Result ℤ NumFault
counted f z = if int_lt z (pos 0) then Err NumberRange else ranged (f (unsigned_abs z))

-- a times 2 ^ n
abbrev pub shifted_left : ℤ → ℕ → ℤ
shifted_left a n = a *ℤ pos (2 ^ n)

-- a / 2 ^ n, rounded down
abbrev pub shifted_right : ℤ → ℕ → ℤ
shifted_right a n = floor_div a (2 ^ n)

-- what Python's operator gives of a and b, or why a description may not ask it
unfoldable pub python_value : PyOp → ℤ → ℤ → Result ℤ NumFault
python_value op.Add a b = ranged (a +ℤ b)
python_value op.Sub a b = ranged (a -ℤ b)
python_value op.Mul a b = ranged (a *ℤ b)
python_value op.FloorDiv a b = divided b (floor_quotient a b)
python_value op.Mod a b = divided b (floor_remainder a b)
python_value op.Pow a b = counted (int_pow a) b
python_value op.Shl a b = counted (shifted_left a) b
python_value op.Shr a b = counted (shifted_right a) b
python_value op.And a b = ranged (int_and a b)
python_value op.Or a b = ranged (int_or a b)
python_value op.Xor a b = ranged (int_xor a b)
