-- An expression's bits are below 2 to the width of its context.
use Rattle.std.proofs.Common.{◌≡◌, ℕ, zero, suc, ◌+◌, ◌-◌, ◌*◌, ◌/◌, ◌%◌, ◌^◌, ◌<◌, ◌≤◌, Bool, true, false, ◌&&◌, ◌||◌, cond, max, nat_eq, nat_le, nat_lt, arith, lit<}
use Rattle.std.specs.Prelude.{ℤ, ◌∷◌, bit_and, bit_or, bit_xor}
use Rattle.std.proofs.lemmas.Bool.{and_parts, ltb-true, or_left, or_right}
use Rattle.std.proofs.lemmas.Nat.{pow_pos, pow-add, mod_below, div_below, mul-add-lt, and_le_l, or_lt, xor_lt}
use Rattle.std.proofs.Math.Pow.{pow_mono}
use Rattle.std.proofs.Math.Nat.{div-le_self, zero-mul, suc-mul, mul_comm}
use Rattle.lx_num.specs.Ints.{read_bits}
use Rattle.lx_vtext.specs.declared.operators.BinOp.{BinOp}
use Rattle.lx_vtext.specs.declared.operators.BinOp.TheVariants as op
use Rattle.lx_vtext.specs.declared.operators.UnOp.{UnOp}
use Rattle.lx_vtext.specs.declared.operators.UnOp.TheVariants.{Negate, Invert}
use Rattle.lx_vtext.specs.Tree.{Name, VExpr, VExprs, Net, Literal, PartSelect, Word, Unary, Binary, Conditional, Concatenation, Replication, ToSigned, ToUnsigned, NoMore, More}
use Rattle.lx_vtext.specs.Fits.{is_literal, IsExpr, AreExprs}
use Rattle.lx_vmeaning.specs.Meaning.{Sizes, Valuation, Meaning, meaning, meanings, own, leaf, extend, compare, choose, truth, fill_shift, concat_bits, width_sum, repeated, read_word, unary, binary, less, less_equal, greater, greater_equal, equal, not_equal}
use Rattle.lx_vmeaning.specs.Loops.{reads, some_reads}
use Rattle.lx_vmeaning.specs.Fitting.{PatternsFit}
use Rattle.lx_vmeaning.proofs.Frames.{same_name}

pub by_cond : (b : Bool) (x y n : ℕ) → x < n → y < n → cond b x y < n
by_cond true x y n p q = p
by_cond false x y n p q = q

-- ---- numbers

stacked_by : (a b j k : ℕ) → a < j → b < k → a * k + b < j * k
stacked_by a b j k p q = let low = mul-add-lt a k b j p q in omega (arith, low, mul_comm k j)

-- a number over another, in so many bits
pub stacked : (a b j k : ℕ) → a < 2 ^ j → b < 2 ^ k → a * 2 ^ k + b < 2 ^ (j + k)
stacked a b j k p q = rw (pow-add 2 j k) (stacked_by a b (2 ^ j) (2 ^ k) p q)

pub extended : (n w : ℕ) (t : Bool) (p : ℕ) → n ≤ w → p < 2 ^ n → extend n w t p < 2 ^ w
extended n w false p le h = let wide : 2 ^ n ≤ 2 ^ w = pow_mono le in omega arith
extended n w true p le h =
    let wide : 2 ^ n ≤ 2 ^ w = pow_mono le in
    by_cond (nat_le (2 ^ (n - 1)) p) (p + (2 ^ w - 2 ^ n)) p (2 ^ w) (omega arith) (omega arith)

shifted : (w p k : ℕ) → p < 2 ^ w → p / 2 ^ k < 2 ^ (w - k)
shifted w p k h =
    let e : 2 ^ (w - k + k) ≡ 2 ^ (w - k) * 2 ^ k = pow-add 2 (w - k) k in
    let le : w ≤ w - k + k = omega arith in
    let wide : 2 ^ w ≤ 2 ^ (w - k + k) = pow_mono le in
    div_below p (2 ^ k) (2 ^ (w - k)) (pow_pos k) (omega arith)

filled : (w p k : ℕ) → p < 2 ^ w → fill_shift w p k < 2 ^ w
filled w p k h =
    let low : p / 2 ^ k < 2 ^ (w - k) = shifted w p k h in
    let le : w - k ≤ w = omega arith in
    let wide : 2 ^ (w - k) ≤ 2 ^ w = pow_mono le in
    by_cond (nat_le (2 ^ (w - 1)) p) (p / 2 ^ k + (2 ^ w - 2 ^ (w - k))) (p / 2 ^ k) (2 ^ w) (omega arith) (omega arith)

repeated_fits : (n k p : ℕ) → p < 2 ^ k → repeated n k p < 2 ^ (n * k)
repeated_fits zero k p h = rw (zero-mul k) (lit< tt)
repeated_fits (suc n) k p h =
    let low = stacked (repeated n k p) p (n * k) k (repeated_fits n k p h) h in
    let turned : 2 ^ k * repeated n k p ≡ repeated n k p * 2 ^ k = mul_comm (2 ^ k) (repeated n k p) in
    rw (suc-mul n k) (omega (arith, low, turned))

-- ---- operators

-- the bits of an expression fit each context that is as wide
abbrev BitsFit : Valuation → Meaning → Type 0
BitsFit v a = (w : ℕ) (t : Bool) → a.width ≤ w → a.bits v w t < 2 ^ w

own_fits : (v : Valuation) (a : Meaning) → BitsFit v a → own a v < 2 ^ a.width
own_fits v a h = h a.width a.signed (omega arith)

leaf_fits : (v : Valuation) (n : ℕ) (s : Bool) (f : Valuation → ℕ) → f v < 2 ^ n → BitsFit v (leaf n s f)
leaf_fits v n s f h w t le = extended n w t (f v) le h

compare_fits : (v : Valuation) (test : ℤ → ℤ → Bool) (a b : Meaning) → BitsFit v (compare test a b)
compare_fits v test a b w t le =
    let n = max a.width b.width in
    let s = a.signed && b.signed in
    let yes = test (read_bits n s (a.bits v n s)) (read_bits n s (b.bits v n s)) in
    extended 1 w t (truth yes) le (by_cond yes 1 0 2 (lit< tt) (lit< tt))

-- both operands in the context
module _ (v : Valuation) (a b : Meaning) (p : BitsFit v a) (q : BitsFit v b) (w : ℕ) (t : Bool) (le : max a.width b.width ≤ w) where
  left : a.bits v w t < 2 ^ w
  left = p w t (omega arith)

  right : b.bits v w t < 2 ^ w
  right = q w t (omega arith)

  and_fits : bit_and (a.bits v w t) (b.bits v w t) < 2 ^ w
  and_fits =
      let low = and_le_l (a.bits v w t) (b.bits v w t) in
      let most = left in
      omega arith

  or_fits : bit_or (a.bits v w t) (b.bits v w t) < 2 ^ w
  or_fits = or_lt w (a.bits v w t) (b.bits v w t) left right

  xor_fits : bit_xor (a.bits v w t) (b.bits v w t) < 2 ^ w
  xor_fits = xor_lt w (a.bits v w t) (b.bits v w t) left right

divided : (n k m : ℕ) → n < m → n / k < m
divided n k m h = let le = div-le_self n k in omega arith

arithmetic_fits : (t : Bool) (w p k : ℕ) → p < 2 ^ w → cond t (fill_shift w p k) (p / 2 ^ k) < 2 ^ w
arithmetic_fits t w p k h = by_cond t (fill_shift w p k) (p / 2 ^ k) (2 ^ w) (filled w p k h) (divided p (2 ^ k) (2 ^ w) h)

binary_fits : (v : Valuation) (o : BinOp) (a b : Meaning) → BitsFit v a → BitsFit v b → BitsFit v (binary o a b)
binary_fits v op.Add a b p q w t le = mod_below (a.bits v w t + b.bits v w t) (2 ^ w) (pow_pos w)
binary_fits v op.Sub a b p q w t le = mod_below (a.bits v w t + (2 ^ w - b.bits v w t)) (2 ^ w) (pow_pos w)
binary_fits v op.Mul a b p q w t le = mod_below (a.bits v w t * b.bits v w t) (2 ^ w) (pow_pos w)
binary_fits v op.And a b p q w t le = and_fits v a b p q w t le
binary_fits v op.Or a b p q w t le = or_fits v a b p q w t le
binary_fits v op.Xor a b p q w t le = xor_fits v a b p q w t le
binary_fits v op.ShiftLeft a b p q w t le = mod_below (a.bits v w t * 2 ^ own b v) (2 ^ w) (pow_pos w)
binary_fits v op.ArithmeticLeft a b p q w t le = mod_below (a.bits v w t * 2 ^ own b v) (2 ^ w) (pow_pos w)
binary_fits v op.ShiftRight a b p q w t le = divided (a.bits v w t) (2 ^ own b v) (2 ^ w) (p w t le)
binary_fits v op.ArithmeticRight a b p q w t le = arithmetic_fits t w (a.bits v w t) (own b v) (p w t le)
binary_fits v op.Less a b p q w t le = compare_fits v less a b w t le
binary_fits v op.LessEqual a b p q w t le = compare_fits v less_equal a b w t le
binary_fits v op.Equal a b p q w t le = compare_fits v equal a b w t le
binary_fits v op.NotEqual a b p q w t le = compare_fits v not_equal a b w t le
binary_fits v op.Greater a b p q w t le = compare_fits v greater a b w t le
binary_fits v op.GreaterEqual a b p q w t le = compare_fits v greater_equal a b w t le

unary_fits : (v : Valuation) (o : UnOp) (a : Meaning) → BitsFit v (unary o a)
unary_fits v Negate a w t le = mod_below (2 ^ w - a.bits v w t) (2 ^ w) (pow_pos w)
unary_fits v Invert a w t le = let some = pow_pos w in omega arith

choose_fits : (v : Valuation) (c a b : Meaning) → BitsFit v a → BitsFit v b → BitsFit v (choose c a b)
choose_fits v c a b p q w t le = by_cond (nat_eq (own c v) 0) (b.bits v w t) (a.bits v w t) (2 ^ w) (q w t (omega arith)) (p w t (omega arith))

word_fits : (depth n : ℕ) (words : ℕ → ℕ) (k : ℕ) → ((j : ℕ) → words j < 2 ^ n) → read_word depth words k < 2 ^ n
word_fits depth n words k h = by_cond (nat_lt k depth) (words k) 0 (2 ^ n) (h k) (pow_pos n)

-- ---- expressions

left_of : (d : Sizes) (v : Valuation) (p q : Name → Bool) → PatternsFit d v (λ n. p n || q n) → PatternsFit d v p
left_of d v p q f = record { nets = λ n e. f.nets n (or_left (p n) (q n) e); words = f.words }

right_of : (d : Sizes) (v : Valuation) (p q : Name → Bool) → PatternsFit d v (λ n. p n || q n) → PatternsFit d v q
right_of d v p q f = record { nets = λ n e. f.nets n (or_right (p n) (q n) e); words = f.words }

literal_below : (bits value : ℕ) → is_literal bits value ≡ true → value < 2 ^ bits
literal_below bits value h = ltb-true value (2 ^ bits) (and_parts (nat_le 1 bits && nat_le bits 128) (nat_lt value (2 ^ bits)) h).1

mutual
  pub bits_fit : (d : Sizes) (v : Valuation) (e : VExpr) (k : ℕ) → IsExpr k e → PatternsFit d v (λ n. reads n e) → BitsFit v (meaning d e)
  bits_fit d v (Net n) k x f = leaf_fits v (d n).bits (d n).signed (λ u. u.nets n) (f.nets n (same_name n))
  bits_fit d v (Literal bits signed value) k x f = leaf_fits v bits signed (λ u. value) (literal_below bits value x)
  bits_fit d v (PartSelect n hi lo) k x f = leaf_fits v (hi - lo + 1) false (λ u. u.nets n / 2 ^ lo % 2 ^ (hi - lo + 1)) (mod_below (v.nets n / 2 ^ lo) (2 ^ (hi - lo + 1)) (pow_pos (hi - lo + 1)))
  bits_fit d v (Word n index) k x f = leaf_fits v (d n).bits false (λ u. read_word (d n).depth (u.words n) (own (meaning d index) u)) (word_fits (d n).depth (d n).bits (v.words n) (own (meaning d index) v) (f.words n))
  bits_fit d v (Unary o a) k x f = unary_fits v o (meaning d a)
  bits_fit d v (Binary a o b) zero x f = absurd x
  bits_fit d v (Binary a o b) (suc k) x f =
      binary_fits v o (meaning d a) (meaning d b) (bits_fit d v a k x.0 (left_of d v (λ n. reads n a) (λ n. reads n b) f)) (bits_fit d v b k x.1 (right_of d v (λ n. reads n a) (λ n. reads n b) f))
  bits_fit d v (Conditional c a b) zero x f = absurd x
  bits_fit d v (Conditional c a b) (suc k) x f =
      let g = right_of d v (λ n. reads n c) (λ n. reads n a || reads n b) f in
      choose_fits v (meaning d c) (meaning d a) (meaning d b) (bits_fit d v a k x.1 (left_of d v (λ n. reads n a) (λ n. reads n b) g)) (bits_fit d v b k x.2 (right_of d v (λ n. reads n a) (λ n. reads n b) g))
  bits_fit d v (Concatenation a as_) zero x f = absurd x
  bits_fit d v (Concatenation a as_) (suc k) x f =
      leaf_fits v (width_sum (meaning d a ∷ meanings d as_)) false (λ u. concat_bits (meaning d a ∷ meanings d as_) u)
      (stacked (own (meaning d a) v) (concat_bits (meanings d as_) v) (meaning d a).width (width_sum (meanings d as_))
      (own_fits v (meaning d a) (bits_fit d v a k x.0 (left_of d v (λ n. reads n a) (λ n. some_reads n as_) f)))
      (parts_fit d v as_ k x.1 (right_of d v (λ n. reads n a) (λ n. some_reads n as_) f)))
  bits_fit d v (Replication c a) zero x f = absurd x
  bits_fit d v (Replication c a) (suc zero) x f = absurd x
  bits_fit d v (Replication c a) (suc (suc k)) x f =
      leaf_fits v (c * (meaning d a).width) false (λ u. repeated c (meaning d a).width (own (meaning d a) u)) (repeated_fits c (meaning d a).width (own (meaning d a) v) (own_fits v (meaning d a) (bits_fit d v a k x f)))
  bits_fit d v (ToSigned a) zero x f = absurd x
  bits_fit d v (ToSigned a) (suc k) x f = leaf_fits v (meaning d a).width true (λ u. own (meaning d a) u) (own_fits v (meaning d a) (bits_fit d v a k x f))
  bits_fit d v (ToUnsigned a) zero x f = absurd x
  bits_fit d v (ToUnsigned a) (suc k) x f = leaf_fits v (meaning d a).width false (λ u. own (meaning d a) u) (own_fits v (meaning d a) (bits_fit d v a k x f))

  parts_fit : (d : Sizes) (v : Valuation) (es : VExprs) (k : ℕ) → AreExprs k es → PatternsFit d v (λ n. some_reads n es) → concat_bits (meanings d es) v < 2 ^ width_sum (meanings d es)
  parts_fit d v NoMore k x f = lit< tt
  parts_fit d v (More a as_) k x f =
      stacked (own (meaning d a) v) (concat_bits (meanings d as_) v) (meaning d a).width (width_sum (meanings d as_))
      (own_fits v (meaning d a) (bits_fit d v a k x.0 (left_of d v (λ n. reads n a) (λ n. some_reads n as_) f)))
      (parts_fit d v as_ k x.1 (right_of d v (λ n. reads n a) (λ n. some_reads n as_) f))
