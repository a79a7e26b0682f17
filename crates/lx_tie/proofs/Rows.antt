-- Each row of the table of operators gives a net the bits of the operator's value.
use Rattle.std.proofs.Common.{◌≡◌, ℕ, ℤ, Bool, true, false, ◌+◌, ◌-◌, ◌^◌, ◌||◌, ◌&&◌, max, not, subst, arith}
use Rattle.std.proofs.lemmas.Nat.{pow_pos}
use Rattle.lx_num.specs.declared.Shape.{Shape}
use Rattle.lx_num.specs.Ints.{shape, floor_div}
use Rattle.lx_tables.specs.declared.operators.Op.{Op}
use Rattle.lx_tables.specs.declared.operators.Op.TheVariants.{Neg, Not, Add, Sub, Mul, Shl, Shr, And, Or, Xor, Eq, Ne, Lt, Le, Gt, Ge, Mux, Cat, Replicate}
use Rattle.lx_tables.specs.Operators.{row_of, mix_of, left_signed, right_signed, right_shift}
use Rattle.lx_circuit.specs.Shapes.{extra, joined_bits, joined, unary_shape, binary_shape}
use Rattle.lx_circuit.specs.Values.{unary_value, binary_value, mux_value, flag, count_of}
use Rattle.lx_vmeaning.specs.Meaning.{Valuation, Meaning, compare, less, less_equal, greater, greater_equal, equal, not_equal, negated, inverted, binary}
use Rattle.lx_tie.specs.Stands.{Exact, Drives, Spreads}
use Rattle.lx_tie.specs.Rows.{wide_if, binary_op, built_unary, built_binary, built_choice, TakesRight}
use Rattle.lx_circuit.specs.Operands.{is_unary, is_binary}
use Rattle.lx_tie.proofs.Leaves.{spreads_drives, exact_spreads, exact_widened}
use Rattle.lx_tie.proofs.Texts.{spreads_plus, spreads_minus, spreads_times, spreads_and, spreads_or, spreads_xor, spreads_negated, spreads_inverted, drives_inverted, spreads_left_shift, spreads_right_shift, exact_compare, spreads_choose}
use Rattle.lx_tie.proofs.Parts.{spreads_arithmetic_right}

-- an operand that stays as it is
same_width : (u : Valuation) (n : ℕ) (s : Bool) (x : ℤ) (e : Meaning) → Exact u n s x e → Exact u (n + 0) s x e
same_width u n s x e p = subst (λ (k : ℕ). Exact u k s x e) (let q : n ≡ n + 0 = omega arith in q) p

abbrev left_text : Bool → Bool → Meaning → Meaning
left_text s t e = wide_if (not (left_signed (mix_of s t)) && right_signed (mix_of s t)) e

abbrev right_text : Bool → Bool → Meaning → Meaning
right_text s t e = wide_if (left_signed (mix_of s t) && not (right_signed (mix_of s t))) e

-- an operand sized by the signs of both has the joined width and sign
exact_left : (u : Valuation) (n : ℕ) (s t : Bool) (x : ℤ) (e : Meaning) → Exact u n s x e → Exact u (n + extra s (s || t)) (s || t) x (left_text s t e)
exact_left u n false false x e p = same_width u n false x e p
exact_left u n false true x e p = exact_widened u n x e p
exact_left u n true false x e p = same_width u n true x e p
exact_left u n true true x e p = same_width u n true x e p

exact_right : (u : Valuation) (n : ℕ) (s t : Bool) (x : ℤ) (e : Meaning) → Exact u n t x e → Exact u (n + extra t (s || t)) (s || t) x (right_text s t e)
exact_right u n false false x e p = same_width u n false x e p
exact_right u n false true x e p = same_width u n true x e p
exact_right u n true false x e p = exact_widened u n x e p
exact_right u n true true x e p = same_width u n true x e p

-- the operands of a joined operator: widths, sign, and the sized texts
record Joins (u : Valuation) (a b : Shape) (x y : ℤ) (d e : Meaning) : Type 0 where
  left : Exact u (joined_bits (a.signed || b.signed) a) (a.signed || b.signed) x (left_text a.signed b.signed d)
  right : Exact u (joined_bits (a.signed || b.signed) b) (a.signed || b.signed) y (right_text a.signed b.signed e)

joins : (u : Valuation) (a b : Shape) (x y : ℤ) (d e : Meaning) → Exact u a.bits a.signed x d → Exact u b.bits b.signed y e → Joins u a b x y d e
joins u a b x y d e p q = record { left = exact_left u a.bits a.signed b.signed x d p; right = exact_right u b.bits a.signed b.signed y e q }

-- a comparison
compared : (u : Valuation) (test : ℤ → ℤ → Bool) (a b : Shape) (x y : ℤ) (d e : Meaning) → Joins u a b x y d e → Drives u 1 (flag (test x y)) (compare test (left_text a.signed b.signed d) (right_text a.signed b.signed e))
compared u test a b x y d e j =
    spreads_drives u 1 (flag (test x y)) (compare test (left_text a.signed b.signed d) (right_text a.signed b.signed e))
    (exact_spreads u 1 false (flag (test x y)) (compare test (left_text a.signed b.signed d) (right_text a.signed b.signed e))
    (exact_compare u test (joined_bits (a.signed || b.signed) a) (joined_bits (a.signed || b.signed) b) (a.signed || b.signed) x y (left_text a.signed b.signed d) (right_text a.signed b.signed e) j.left j.right))

-- a shift to the right, by the sign of what is shifted
shifted_right : (u : Valuation) (n m : ℕ) (s t : Bool) (x y : ℤ) (d e : Meaning) → Exact u n s x d → Exact u m false y e → Spreads u n (floor_div x (2 ^ count_of y)) (binary (binary_op (right_shift (left_signed (mix_of s t)))) d e)
shifted_right u n m false false x y d e p q = spreads_right_shift u n m x y d e p q
shifted_right u n m false true x y d e p q = spreads_right_shift u n m x y d e p q
shifted_right u n m true false x y d e p q = spreads_arithmetic_right u n m x y d e p q
shifted_right u n m true true x y d e p q = spreads_arithmetic_right u n m x y d e p q

-- an unsigned amount
unsigned_amount : (u : Valuation) (b : Shape) (y : ℤ) (e : Meaning) → b.signed ≡ false → Exact u b.bits b.signed y e → Exact u b.bits false y e
unsigned_amount u b y e s q = subst (λ t. Exact u b.bits t y e) s q

-- a width that the joined operands stay within
abbrev wide : Shape → Shape → ℕ
wide a b = max (joined_bits (a.signed || b.signed) a) (joined_bits (a.signed || b.signed) b)

pub binary_drives : (u : Valuation) (op : Op) (a b : Shape) (x y : ℤ) (d e : Meaning) → is_binary op ≡ true → TakesRight op b.signed → Exact u a.bits a.signed x d → Exact u b.bits b.signed y e
    → Drives u (binary_shape op a b).bits (binary_value op x y) (built_binary (row_of op (mix_of a.signed b.signed)) d e)
binary_drives u Neg a b x y d e o t p q = cc
binary_drives u Not a b x y d e o t p q = cc
binary_drives u Add a b x y d e o t p q =
    let j = joins u a b x y d e p q in
    spreads_drives u (wide a b + 1) _ _ (spreads_plus u _ _ (wide a b + 1) (a.signed || b.signed) x y (left_text a.signed b.signed d) (right_text a.signed b.signed e) j.left j.right (omega arith) (omega arith))
binary_drives u Sub a b x y d e o t p q =
    let j = joins u a b x y d e p q in
    spreads_drives u (wide a b + 1) _ _ (spreads_minus u _ _ (wide a b + 1) (a.signed || b.signed) x y (left_text a.signed b.signed d) (right_text a.signed b.signed e) j.left j.right (omega arith) (omega arith))
binary_drives u Mul a b x y d e o t p q =
    let j = joins u a b x y d e p q in
    let k = joined_bits (a.signed || b.signed) a + joined_bits (a.signed || b.signed) b in
    spreads_drives u k _ _ (spreads_times u _ _ k (a.signed || b.signed) x y (left_text a.signed b.signed d) (right_text a.signed b.signed e) j.left j.right (omega arith) (omega arith))
binary_drives u Shl a b x y d e o t p q =
    spreads_drives u (a.bits + 2 ^ b.bits - 1) _ _ (spreads_left_shift u a.bits b.bits (a.bits + 2 ^ b.bits - 1) a.signed x y d e p (unsigned_amount u b y e t q) (let one = pow_pos b.bits in omega arith))
binary_drives u Shr a b x y d e o t p q = spreads_drives u a.bits _ _ (shifted_right u a.bits b.bits a.signed b.signed x y d e p (unsigned_amount u b y e t q))
binary_drives u And a b x y d e o t p q =
    let j = joins u a b x y d e p q in
    spreads_drives u (wide a b) _ _ (spreads_and u _ _ (wide a b) (a.signed || b.signed) x y (left_text a.signed b.signed d) (right_text a.signed b.signed e) j.left j.right (omega arith) (omega arith))
binary_drives u Or a b x y d e o t p q =
    let j = joins u a b x y d e p q in
    spreads_drives u (wide a b) _ _ (spreads_or u _ _ (wide a b) (a.signed || b.signed) x y (left_text a.signed b.signed d) (right_text a.signed b.signed e) j.left j.right (omega arith) (omega arith))
binary_drives u Xor a b x y d e o t p q =
    let j = joins u a b x y d e p q in
    spreads_drives u (wide a b) _ _ (spreads_xor u _ _ (wide a b) (a.signed || b.signed) x y (left_text a.signed b.signed d) (right_text a.signed b.signed e) j.left j.right (omega arith) (omega arith))
binary_drives u Eq a b x y d e o t p q = compared u equal a b x y d e (joins u a b x y d e p q)
binary_drives u Ne a b x y d e o t p q = compared u not_equal a b x y d e (joins u a b x y d e p q)
binary_drives u Lt a b x y d e o t p q = compared u less a b x y d e (joins u a b x y d e p q)
binary_drives u Le a b x y d e o t p q = compared u less_equal a b x y d e (joins u a b x y d e p q)
binary_drives u Gt a b x y d e o t p q = compared u greater a b x y d e (joins u a b x y d e p q)
binary_drives u Ge a b x y d e o t p q = compared u greater_equal a b x y d e (joins u a b x y d e p q)
binary_drives u Mux a b x y d e o t p q = cc
binary_drives u Cat a b x y d e o t p q = cc
binary_drives u Replicate a b x y d e o t p q = cc

-- `~` of a signed operand in every width, of an unsigned one in its own
not_drives : (u : Valuation) (n : ℕ) (s : Bool) (x : ℤ) (d : Meaning) → Exact u n s x d → Drives u n (unary_value Not (shape n s) x) (inverted d)
not_drives u n false x d p = drives_inverted u n x d p
not_drives u n true x d p = spreads_drives u n _ _ (spreads_inverted u n true x d p)

neg_drives : (u : Valuation) (n : ℕ) (s : Bool) (x : ℤ) (d : Meaning) → Exact u n s x d → Drives u (n + 1) (unary_value Neg (shape n s) x) (negated d)
neg_drives u n s x d p = spreads_drives u (n + 1) _ _ (spreads_negated u n (n + 1) s x d p (omega arith))

pub unary_drives : (u : Valuation) (op : Op) (a : Shape) (x : ℤ) (d : Meaning) → is_unary op ≡ true → Exact u a.bits a.signed x d
    → Drives u (unary_shape op a).bits (unary_value op a x) (built_unary (row_of op (mix_of a.signed a.signed)) d)
unary_drives u Neg a x d o p = neg_drives u a.bits a.signed x d p
unary_drives u Not a x d o p = not_drives u a.bits a.signed x d p
unary_drives u Add a x d o p = cc
unary_drives u Sub a x d o p = cc
unary_drives u Mul a x d o p = cc
unary_drives u Shl a x d o p = cc
unary_drives u Shr a x d o p = cc
unary_drives u And a x d o p = cc
unary_drives u Or a x d o p = cc
unary_drives u Xor a x d o p = cc
unary_drives u Eq a x d o p = cc
unary_drives u Ne a x d o p = cc
unary_drives u Lt a x d o p = cc
unary_drives u Le a x d o p = cc
unary_drives u Gt a x d o p = cc
unary_drives u Ge a x d o p = cc
unary_drives u Mux a x d o p = cc
unary_drives u Cat a x d o p = cc
unary_drives u Replicate a x d o p = cc

pub choice_drives : (u : Valuation) (c a b : Shape) (z x y : ℤ) (f d e : Meaning) → Exact u c.bits c.signed z f → Exact u a.bits a.signed x d → Exact u b.bits b.signed y e
    → Drives u (joined a b).bits (mux_value z x y) (built_choice (row_of Mux (mix_of a.signed b.signed)) f d e)
choice_drives u c a b z x y f d e o p q =
    let j = joins u a b x y d e p q in
    spreads_drives u (wide a b) _ _ (spreads_choose u c.bits _ _ (wide a b) c.signed (a.signed || b.signed) z x y f (left_text a.signed b.signed d) (right_text a.signed b.signed e) o j.left j.right (omega arith) (omega arith))
