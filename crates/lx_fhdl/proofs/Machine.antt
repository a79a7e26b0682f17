-- What the code's numbers of 128 bits are, over plain variables.
use Rattle.std.proofs.Common.{◌≡◌, ℕ, ◌-◌, ◌*◌, ◌%◌, ◌^◌, ◌<◌, ◌≤◌, Bool, true, false, min, sym, ◌∙◌, ap, subst, arith, inl, inr, neg_ℤ}
use Rattle.std.specs.Prelude.{ℤ, pos, negsuc, FitsSigned, None, ◌-ℤ◌, ◌*ℤ◌, bit_and, bit_or, bit_xor}
use Rattle.std.specs.Int.{w128}
use Rattle.std.specs.Int.Signed.{shr_z, mag_shr}
use mir.Val.{to_z, of_z}
use Rattle.std.proofs.Math.Nat.{pow-le-pow_right, mod-eq_of_lt, div-eq_of_lt}
use Rattle.std.proofs.lemmas.Bool.{cases_lt}
use Rattle.std.proofs.lemmas.Int.{ints, to_z-of_z, to_z_pos}
use Rattle.std.proofs.lemmas.Nat.{pow_pos, one_shl}
use Rattle.lx_num.specs.declared.Shape.{Shape}
use Rattle.lx_num.specs.Ints.{modulo, floor_div, FitsBits, Fits}
use Rattle.lx_num.specs.Bits.{int_and, int_or, int_xor}
use Rattle.lx_num.proofs.Ranges.{unsigned_fits, signed_fits}
use Rattle.lx_num.proofs.Bitwise.{modulo-int_and, modulo-int_or, modulo-int_xor}
use Rattle.lx_num.proofs.Machine.{shr_is}
use Rattle.lx_tables.specs.declared.operators.Op.{Op}
use Rattle.lx_tables.specs.declared.operators.Op.TheVariants.{Shl}
use Rattle.lx_circuit.specs.Shapes.{unary_shape, binary_shape, binary_fault, index_fault, too_wide}
use Rattle.lx_circuit.specs.Values.{unary_value, binary_value, count_of}
use Rattle.lx_fhdl.specs.Nodes.{IsSmall}
use Rattle.lx_fhdl.proofs.Operators.{binary_fits, binary_small, unary_fits, none_left, index_unsigned, unsigned_operand}
use Rattle.lx_fhdl.proofs.Fitting.{count_below}

-- a value of at most 127 bits is a number of the machine
pub machine : (n : ℕ) (s : Bool) (z : ℤ) → n ≤ 127 → FitsBits n s z → FitsSigned w128 z
machine n true z h f =
    let two : 0 < 2 = omega arith in
    let i : n - 1 ≤ 126 = omega arith in
    let e = pow-le-pow_right two i in
    let p = signed_fits n z f in
    omega (arith, ints)
machine n false z h f =
    let two : 0 < 2 = omega arith in
    let e = pow-le-pow_right two h in
    let p = unsigned_fits n z f in
    omega (arith, ints)

pub binary_machine : (op : Op) (a b : Shape) (x y : ℤ) → IsSmall a → IsSmall b → binary_fault op a b ≡ None → Fits a x → Fits b y → FitsSigned w128 (binary_value op x y)
binary_machine op a b x y p q e f g = machine (binary_shape op a b).bits (binary_shape op a b).signed (binary_value op x y) (binary_small op a b p q e).most (binary_fits op a b x y p q e f g)

pub unary_machine : (op : Op) (a : Shape) (x : ℤ) → IsSmall a → (unary_shape op a).bits ≤ 127 → Fits a x → FitsSigned w128 (unary_value op a x)
unary_machine op a x p h f = machine (unary_shape op a).bits (unary_shape op a).signed (unary_value op a x) h (unary_fits op a x p.some f)

-- an operation on two numbers that went through the machine
pub passed : (g : ℤ → ℤ → ℤ) (x y : ℤ) → FitsSigned w128 x → FitsSigned w128 y → g (to_z w128 (of_z w128 x)) (to_z w128 (of_z w128 y)) ≡ g x y
passed g x y f k = ap (λ (z : ℤ). g z (to_z w128 (of_z w128 y))) (to_z-of_z w128 x f) ∙ ap (g x) (to_z-of_z w128 y k)

pub passed_fits : (g : ℤ → ℤ → ℤ) (x y : ℤ) → FitsSigned w128 x → FitsSigned w128 y → FitsSigned w128 (g x y) → FitsSigned w128 (g (to_z w128 (of_z w128 x)) (to_z w128 (of_z w128 y)))
passed_fits g x y f k h = subst (λ (z : ℤ). FitsSigned w128 z) (sym (passed g x y f k)) h

pub passed_is : (g : ℤ → ℤ → ℤ) (x y : ℤ) → FitsSigned w128 x → FitsSigned w128 y → FitsSigned w128 (g x y) → to_z w128 (of_z w128 (g (to_z w128 (of_z w128 x)) (to_z w128 (of_z w128 y)))) ≡ g x y
passed_is g x y f k h = ap (λ (z : ℤ). to_z w128 (of_z w128 z)) (passed g x y f k) ∙ to_z-of_z w128 (g x y) h

-- the pattern of a number of the machine
pub of_z_is : (x : ℤ) → FitsSigned w128 x → of_z w128 x ≡ modulo x (2 ^ 128)
of_z_is (pos a) f = let h : a < 2 ^ 128 = omega (arith, ints, f) in sym (mod-eq_of_lt h)
of_z_is (negsuc a) f = let h : a < 2 ^ 128 = omega (arith, ints, f) in omega (arith, mod-eq_of_lt h)

pub bits_and : (x y : ℤ) → FitsSigned w128 x → FitsSigned w128 y → FitsSigned w128 (int_and x y) → to_z w128 (bit_and (of_z w128 x) (of_z w128 y)) ≡ int_and x y
bits_and x y f g h =
    ap (λ (p : ℕ). to_z w128 (bit_and p (of_z w128 y))) (of_z_is x f)
    ∙ ap (λ (p : ℕ). to_z w128 (bit_and (modulo x (2 ^ 128)) p)) (of_z_is y g)
    ∙ ap (to_z w128) (sym (modulo-int_and x y 128) ∙ sym (of_z_is (int_and x y) h))
    ∙ to_z-of_z w128 (int_and x y) h

pub bits_or : (x y : ℤ) → FitsSigned w128 x → FitsSigned w128 y → FitsSigned w128 (int_or x y) → to_z w128 (bit_or (of_z w128 x) (of_z w128 y)) ≡ int_or x y
bits_or x y f g h =
    ap (λ (p : ℕ). to_z w128 (bit_or p (of_z w128 y))) (of_z_is x f)
    ∙ ap (λ (p : ℕ). to_z w128 (bit_or (modulo x (2 ^ 128)) p)) (of_z_is y g)
    ∙ ap (to_z w128) (sym (modulo-int_or x y 128) ∙ sym (of_z_is (int_or x y) h))
    ∙ to_z-of_z w128 (int_or x y) h

pub bits_xor : (x y : ℤ) → FitsSigned w128 x → FitsSigned w128 y → FitsSigned w128 (int_xor x y) → to_z w128 (bit_xor (of_z w128 x) (of_z w128 y)) ≡ int_xor x y
bits_xor x y f g h =
    ap (λ (p : ℕ). to_z w128 (bit_xor p (of_z w128 y))) (of_z_is x f)
    ∙ ap (λ (p : ℕ). to_z w128 (bit_xor (modulo x (2 ^ 128)) p)) (of_z_is y g)
    ∙ ap (to_z w128) (sym (modulo-int_xor x y 128) ∙ sym (of_z_is (int_xor x y) h))
    ∙ to_z-of_z w128 (int_xor x y) h

-- a shift to the right by 127 or more leaves the sign alone
far : (x : ℤ) (k : ℕ) → FitsSigned w128 x → 127 ≤ k → floor_div x (2 ^ k) ≡ floor_div x (2 ^ 127)
far (pos a) k f h =
    let p : a < 2 ^ 127 = omega (arith, ints, f) in
    let two : 0 < 2 = omega arith in
    let q : a < 2 ^ k = omega (arith, pow-le-pow_right two h) in
    ap pos (div-eq_of_lt q ∙ sym (div-eq_of_lt p))
far (negsuc a) k f h =
    let p : a < 2 ^ 127 = omega (arith, ints, f) in
    let two : 0 < 2 = omega arith in
    let q : a < 2 ^ k = omega (arith, pow-le-pow_right two h) in
    ap negsuc (div-eq_of_lt q ∙ sym (div-eq_of_lt p))

capped : (x : ℤ) (k : ℕ) → FitsSigned w128 x → floor_div x (2 ^ min k 127) ≡ floor_div x (2 ^ k)
capped x k f =
    elim (cases_lt k 127) [
      | inl h ↦ let e : min k 127 ≡ k = omega arith in ap (λ (j : ℕ). floor_div x (2 ^ j)) e
      | inr h ↦ let e : min k 127 ≡ 127 = omega arith in ap (λ (j : ℕ). floor_div x (2 ^ j)) e ∙ sym (far x k f h)
    ]

pub shifted_right : (x y : ℤ) (k : ℕ) → FitsSigned w128 x → k ≡ min (count_of y) 127 → to_z w128 (of_z w128 (shr_z (to_z w128 (of_z w128 x)) (2 ^ k))) ≡ floor_div x (2 ^ count_of y)
shifted_right x y k f e =
    let g : FitsSigned w128 (shr_z x (2 ^ k)) = omega (arith, ints, mag_shr x (2 ^ k), f) in
    ap (λ (z : ℤ). to_z w128 (of_z w128 (shr_z z (2 ^ k)))) (to_z-of_z w128 x f)
    ∙ to_z-of_z w128 (shr_z x (2 ^ k)) g
    ∙ shr_is x (2 ^ k)
    ∙ ap (λ (j : ℕ). floor_div x (2 ^ j)) e
    ∙ capped x (count_of y) f

-- a product with a power of two
unit_is : (k : ℕ) → k ≤ 126 → to_z w128 ((1 * 2 ^ k) % 2 ^ 128) ≡ pos (2 ^ k)
unit_is k h =
    let two : 0 < 2 = omega arith in
    let l : k < 128 = omega arith in
    let p : 2 ^ k < 2 ^ 127 = omega (arith, pow-le-pow_right two h) in
    ap (to_z w128) (one_shl k 128 l) ∙ to_z_pos w128 (2 ^ k) p

pub shifted_left : (x y : ℤ) (k : ℕ) → FitsSigned w128 x → k ≡ min (count_of y) 127 → count_of y ≤ 126 → to_z w128 (of_z w128 x) *ℤ to_z w128 ((1 * 2 ^ k) % 2 ^ 128) ≡ x *ℤ pos (2 ^ count_of y)
shifted_left x y k f e h =
    let c : k ≡ count_of y = omega arith in
    let l : k ≤ 126 = omega arith in
    ap (λ (z : ℤ). z *ℤ to_z w128 ((1 * 2 ^ k) % 2 ^ 128)) (to_z-of_z w128 x f)
    ∙ ap (λ (z : ℤ). x *ℤ z) (unit_is k l)
    ∙ ap (λ (j : ℕ). x *ℤ pos (2 ^ j)) c

-- an amount under which a left shift is no wider than 127 bits
pub amount_small : (a b : Shape) (y : ℤ) → IsSmall a → IsSmall b → binary_fault Shl a b ≡ None → Fits b y → count_of y ≤ 126
amount_small a b y p q e g =
    let s = binary_small Shl a b p q e in
    let u = index_unsigned b (none_left (index_fault b) (too_wide (binary_shape Shl a b).bits) e) in
    omega (arith, s.most, p.some, count_below b.bits y (unsigned_operand b y u g))

-- 2 ^ n - 1 as the code makes it
pub ones_fit : (n : ℕ) → n ≤ 127 → FitsSigned w128 (pos ((1 * 2 ^ n) % 2 ^ 128 - 1))
ones_fit n h =
    let two : 0 < 2 = omega arith in
    let l : n < 128 = omega arith in
    omega (arith, ints, one_shl n 128 l, pow-le-pow_right two h, pow_pos n)

pub ones_is : (n : ℕ) → n ≤ 127 → to_z w128 ((1 * 2 ^ n) % 2 ^ 128 - 1) ≡ pos (2 ^ n - 1)
ones_is n h =
    let two : 0 < 2 = omega arith in
    let l : n < 128 = omega arith in
    let p : 2 ^ n - 1 < 2 ^ 127 = omega (arith, pow-le-pow_right two h, pow_pos n) in
    ap (λ (k : ℕ). to_z w128 (k - 1)) (one_shl n 128 l) ∙ to_z_pos w128 (2 ^ n - 1) p

-- a negation as the code makes it
pub negated : (x : ℤ) → pos 0 -ℤ x ≡ neg_ℤ x
negated x = omega (arith, ints)
