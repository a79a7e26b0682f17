-- A number with some of its bits taken from another.
use Rattle.std.specs.Prelude.{ℕ, ℤ, pos, ◌+◌, ◌*◌, ◌^◌, ◌+ℤ◌, ◌*ℤ◌}
use Rattle.lx_num.specs.Ints.{modulo, floor_div}

-- z with its len bits from low on taken from the lowest bits of x
abbrev pub with_field_of : ℤ → ℕ → ℕ → ℤ → ℤ
with_field_of z low len x = (floor_div z (2 ^ (low + len)) *ℤ pos (2 ^ (low + len))) +ℤ pos (modulo x (2 ^ len) * 2 ^ low + modulo z (2 ^ low))
