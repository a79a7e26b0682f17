-- The processor's operators on patterns of 128 bits are those on the whole numbers that the patterns stand for.
use Rattle.std.proofs.Common.{◌≡◌, ℕ, ◌^◌, ◌<◌, sym, ◌∙◌, ap, arith}
use Rattle.std.specs.Prelude.{ℤ, pos, negsuc, bit_and, bit_or, bit_xor, FitsSigned}
use Rattle.std.specs.Int.{w128, cast_signed, cast_unsigned}
use Rattle.std.proofs.lemmas.Int.{to_z-of_z}
use Rattle.std.proofs.lemmas.Nat.{and_le_l, or_lt, xor_lt}
use Rattle.std.proofs.Math.Nat.{mod-eq_of_lt}
use Rattle.lx_num.specs.Ints.{modulo}
use Rattle.lx_num.specs.Bits.{int_and, int_or, int_xor}
use Rattle.lx_num.proofs.Bitwise.{modulo-int_and, modulo-int_or, modulo-int_xor}

pattern_is : (z : ℤ) → FitsSigned w128 z → cast_unsigned w128 z ≡ modulo z (2 ^ 128)
pattern_is (pos a) f = let h : a < 2 ^ 128 = omega arith in sym (mod-eq_of_lt h)
pattern_is (negsuc a) f = let h : a < 2 ^ 128 = omega arith in omega (arith, mod-eq_of_lt h)

-- what an operator on patterns gives stands for z, where it is z modulo 2 ^ 128
read_as : (f : ℕ → ℕ → ℕ) (x y z : ℤ) → FitsSigned w128 x → FitsSigned w128 y → FitsSigned w128 z → modulo z (2 ^ 128) ≡ f (modulo x (2 ^ 128)) (modulo y (2 ^ 128)) → cast_signed w128 (f (cast_unsigned w128 x) (cast_unsigned w128 y)) ≡ z
read_as f x y z p q r e =
    ap (λ (n : ℕ). cast_signed w128 (f n (cast_unsigned w128 y))) (pattern_is x p)
    ∙ ap (λ (n : ℕ). cast_signed w128 (f (modulo x (2 ^ 128)) n)) (pattern_is y q)
    ∙ ap (cast_signed w128) (sym e ∙ sym (pattern_is z r))
    ∙ to_z-of_z w128 z r

size_and : (x y : ℤ) → FitsSigned w128 x → FitsSigned w128 y → FitsSigned w128 (int_and x y)
size_and (pos a) (pos b) f g = record { sfits = omega (arith, and_le_l a b) }
size_and (pos a) (negsuc b) f g = record { sfits = omega arith }
size_and (negsuc a) (pos b) f g = record { sfits = omega arith }
size_and (negsuc a) (negsuc b) f g = record { sfits = or_lt 127 a b f.sfits g.sfits }

size_or : (x y : ℤ) → FitsSigned w128 x → FitsSigned w128 y → FitsSigned w128 (int_or x y)
size_or (pos a) (pos b) f g = record { sfits = or_lt 127 a b f.sfits g.sfits }
size_or (pos a) (negsuc b) f g = record { sfits = omega arith }
size_or (negsuc a) (pos b) f g = record { sfits = omega arith }
size_or (negsuc a) (negsuc b) f g = record { sfits = omega (arith, and_le_l a b) }

size_xor : (x y : ℤ) → FitsSigned w128 x → FitsSigned w128 y → FitsSigned w128 (int_xor x y)
size_xor (pos a) (pos b) f g = record { sfits = xor_lt 127 a b f.sfits g.sfits }
size_xor (pos a) (negsuc b) f g = record { sfits = xor_lt 127 a b f.sfits g.sfits }
size_xor (negsuc a) (pos b) f g = record { sfits = xor_lt 127 a b f.sfits g.sfits }
size_xor (negsuc a) (negsuc b) f g = record { sfits = xor_lt 127 a b f.sfits g.sfits }

pub and_is : (x y : ℤ) → FitsSigned w128 x → FitsSigned w128 y → cast_signed w128 (bit_and (cast_unsigned w128 x) (cast_unsigned w128 y)) ≡ int_and x y
and_is x y f g = read_as bit_and x y (int_and x y) f g (size_and x y f g) (modulo-int_and x y 128)

pub or_is : (x y : ℤ) → FitsSigned w128 x → FitsSigned w128 y → cast_signed w128 (bit_or (cast_unsigned w128 x) (cast_unsigned w128 y)) ≡ int_or x y
or_is x y f g = read_as bit_or x y (int_or x y) f g (size_or x y f g) (modulo-int_or x y 128)

pub xor_is : (x y : ℤ) → FitsSigned w128 x → FitsSigned w128 y → cast_signed w128 (bit_xor (cast_unsigned w128 x) (cast_unsigned w128 y)) ≡ int_xor x y
xor_is x y f g = read_as bit_xor x y (int_xor x y) f g (size_xor x y f g) (modulo-int_xor x y 128)
