-- Bitwise operators on whole numbers, in two's complement without end.
use Rattle.std.specs.Prelude.{ℤ, pos, negsuc, ◌-◌, bit_and, bit_or, bit_xor}

abbrev pub int_not : ℤ → ℤ
int_not (pos a) = negsuc a
int_not (negsuc a) = pos a

abbrev pub int_and : ℤ → ℤ → ℤ
int_and (pos a) (pos b) = pos (bit_and a b)
int_and (pos a) (negsuc b) = pos (a - bit_and a b)
int_and (negsuc a) (pos b) = pos (b - bit_and a b)
int_and (negsuc a) (negsuc b) = negsuc (bit_or a b)

abbrev pub int_or : ℤ → ℤ → ℤ
int_or (pos a) (pos b) = pos (bit_or a b)
int_or (pos a) (negsuc b) = negsuc (b - bit_and a b)
int_or (negsuc a) (pos b) = negsuc (a - bit_and a b)
int_or (negsuc a) (negsuc b) = negsuc (bit_and a b)

abbrev pub int_xor : ℤ → ℤ → ℤ
int_xor (pos a) (pos b) = pos (bit_xor a b)
int_xor (pos a) (negsuc b) = negsuc (bit_xor a b)
int_xor (negsuc a) (pos b) = negsuc (bit_xor a b)
int_xor (negsuc a) (negsuc b) = pos (bit_xor a b)
