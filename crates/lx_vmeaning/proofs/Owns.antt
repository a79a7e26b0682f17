-- Where the own widths of names, words, selects, literals, concatenations and replications are 1 to 128, so are all others and all contexts.
use Rattle.std.proofs.Common.{◌≡◌, ℕ, ◌≤◌, Bool, true, false, ◌&&◌, cond, max, refl, arith, nat_le}
use Rattle.std.proofs.lemmas.Bool.{and_from, and_parts, le-leb, leb-true}
use Rattle.lx_vtext.specs.declared.operators.BinOp.{BinOp}
use Rattle.lx_vtext.specs.declared.operators.BinOp.TheVariants as op
use Rattle.lx_vtext.specs.declared.operators.UnOp.{UnOp}
use Rattle.lx_vtext.specs.declared.operators.UnOp.TheVariants.{Negate, Invert}
use Rattle.lx_vtext.specs.Tree.{VExpr, VExprs, Net, Literal, PartSelect, Word, Unary, Binary, Conditional, Concatenation, Replication, ToSigned, ToUnsigned, NoMore, More}
use Rattle.lx_vmeaning.specs.Meaning.{Sizes}
use Rattle.lx_vmeaning.specs.Widths.{is_width, is_shift, is_comparison, left_context, right_context, own_width, widths_fit, all_widths_fit, right_fits}

-- the own widths that hang on declarations and numbers alone
abbrev mutual
  pub owns_fit : Sizes → VExpr → Bool
  owns_fit d (Net n) = is_width (own_width d (Net n))
  owns_fit d (Literal bits signed value) = is_width bits
  owns_fit d (PartSelect n hi lo) = is_width (own_width d (PartSelect n hi lo))
  owns_fit d (Word n index) = is_width (own_width d (Word n index)) && owns_fit d index
  owns_fit d (Unary o a) = owns_fit d a
  owns_fit d (Binary a o b) = owns_fit d a && owns_fit d b
  owns_fit d (Conditional c a b) = owns_fit d c && (owns_fit d a && owns_fit d b)
  owns_fit d (Concatenation a as_) = is_width (own_width d (Concatenation a as_)) && (owns_fit d a && all_owns_fit d as_)
  owns_fit d (Replication k a) = is_width (own_width d (Replication k a)) && owns_fit d a
  owns_fit d (ToSigned a) = owns_fit d a
  owns_fit d (ToUnsigned a) = owns_fit d a

  pub all_owns_fit : Sizes → VExprs → Bool
  all_owns_fit d NoMore = true
  all_owns_fit d (More a as_) = owns_fit d a && all_owns_fit d as_

pub is_width-of : (n : ℕ) → 1 ≤ n → n ≤ 128 → is_width n ≡ true
is_width-of n p q = and_from (nat_le 1 n) (nat_le n 128) (le-leb 1 n p) (le-leb n 128 q)

pub width_some : (n : ℕ) → is_width n ≡ true → 1 ≤ n
width_some n h = leb-true 1 n (and_parts (nat_le 1 n) (nat_le n 128) h).0

pub width_most : (n : ℕ) → is_width n ≡ true → n ≤ 128
width_most n h = leb-true n 128 (and_parts (nat_le 1 n) (nat_le n 128) h).1

pub width_max : (n k : ℕ) → is_width n ≡ true → is_width k ≡ true → is_width (max n k) ≡ true
width_max n k p q =
    let a = width_some n p in
    let b = width_most n p in
    let c = width_most k q in
    is_width-of (max n k) (omega arith) (omega arith)

pick : (b : Bool) (n k : ℕ) → is_width n ≡ true → is_width k ≡ true → is_width (cond b n k) ≡ true
pick true n k p q = p
pick false n k p q = q

left_fits : (o : BinOp) (w n k : ℕ) → is_width w ≡ true → is_width n ≡ true → is_width k ≡ true → is_width (left_context o w n k) ≡ true
left_fits o w n k r p q = pick (is_comparison o) (max n k) w (width_max n k p q) r

amount_fits : (o : BinOp) (w n k : ℕ) → is_width w ≡ true → is_width n ≡ true → is_width k ≡ true → is_width (right_context o w n k) ≡ true
amount_fits o w n k r p q = pick (is_comparison o) (max n k) (cond (is_shift o) k w) (width_max n k p q) (pick (is_shift o) k w q r)

binary_own : (d : Sizes) (a : VExpr) (o : BinOp) (b : VExpr) → is_width (own_width d a) ≡ true → is_width (own_width d b) ≡ true → is_width (own_width d (Binary a o b)) ≡ true
binary_own d a op.Add b p q = width_max (own_width d a) (own_width d b) p q
binary_own d a op.Sub b p q = width_max (own_width d a) (own_width d b) p q
binary_own d a op.Mul b p q = width_max (own_width d a) (own_width d b) p q
binary_own d a op.And b p q = width_max (own_width d a) (own_width d b) p q
binary_own d a op.Or b p q = width_max (own_width d a) (own_width d b) p q
binary_own d a op.Xor b p q = width_max (own_width d a) (own_width d b) p q
binary_own d a op.ShiftLeft b p q = p
binary_own d a op.ArithmeticLeft b p q = p
binary_own d a op.ShiftRight b p q = p
binary_own d a op.ArithmeticRight b p q = p
binary_own d a op.Less b p q = refl
binary_own d a op.LessEqual b p q = refl
binary_own d a op.Equal b p q = refl
binary_own d a op.NotEqual b p q = refl
binary_own d a op.Greater b p q = refl
binary_own d a op.GreaterEqual b p q = refl

unary_own : (d : Sizes) (o : UnOp) (a : VExpr) → is_width (own_width d a) ≡ true → is_width (own_width d (Unary o a)) ≡ true
unary_own d Negate a p = p
unary_own d Invert a p = p

-- every own width is 1 to 128
pub own_fits : (d : Sizes) (e : VExpr) → owns_fit d e ≡ true → is_width (own_width d e) ≡ true
own_fits d (Net n) h = h
own_fits d (Literal bits signed value) h = h
own_fits d (PartSelect n hi lo) h = h
own_fits d (Word n index) h = (and_parts (is_width (own_width d (Word n index))) (owns_fit d index) h).0
own_fits d (Unary o a) h = unary_own d o a (own_fits d a h)
own_fits d (Binary a o b) h =
    let p = and_parts (owns_fit d a) (owns_fit d b) h in
    binary_own d a o b (own_fits d a p.0) (own_fits d b p.1)
own_fits d (Conditional c a b) h =
    let p = and_parts (owns_fit d c) (owns_fit d a && owns_fit d b) h in
    let q = and_parts (owns_fit d a) (owns_fit d b) p.1 in
    width_max (own_width d a) (own_width d b) (own_fits d a q.0) (own_fits d b q.1)
own_fits d (Concatenation a as_) h = (and_parts (is_width (own_width d (Concatenation a as_))) (owns_fit d a && all_owns_fit d as_) h).0
own_fits d (Replication k a) h = (and_parts (is_width (own_width d (Replication k a))) (owns_fit d a) h).0
own_fits d (ToSigned a) h = own_fits d a h
own_fits d (ToUnsigned a) h = own_fits d a h

both_fit : (d : Sizes) (w : ℕ) (e : VExpr) (rest : Bool) → is_width (own_width d e) ≡ true → is_width w ≡ true → rest ≡ true → ((is_width (own_width d e) && is_width w) && rest) ≡ true
both_fit d w e rest p q r = and_from (is_width (own_width d e) && is_width w) rest (and_from (is_width (own_width d e)) (is_width w) p q) r

mutual
  -- in a context of 1 to 128 bits all widths are so
  pub context_fits : (d : Sizes) (w : ℕ) (e : VExpr) → owns_fit d e ≡ true → is_width w ≡ true → widths_fit d w e ≡ true
  context_fits d w (Net n) h c = and_from (is_width (own_width d (Net n))) (is_width w) h c
  context_fits d w (Literal bits signed value) h c = and_from (is_width bits) (is_width w) h c
  context_fits d w (PartSelect n hi lo) h c = and_from (is_width (own_width d (PartSelect n hi lo))) (is_width w) h c
  context_fits d w (Word n index) h c =
      let p = and_parts (is_width (own_width d (Word n index))) (owns_fit d index) h in
      both_fit d w (Word n index) (widths_fit d (own_width d index) index) p.0 c (context_fits d (own_width d index) index p.1 (own_fits d index p.1))
  context_fits d w (Unary o a) h c = both_fit d w (Unary o a) (widths_fit d w a) (unary_own d o a (own_fits d a h)) c (context_fits d w a h c)
  context_fits d w (Binary a o b) h c =
      let p = and_parts (owns_fit d a) (owns_fit d b) h in
      let n = own_width d a in
      let k = own_width d b in
      let i = own_fits d a p.0 in
      let j = own_fits d b p.1 in
      both_fit d w (Binary a o b) (widths_fit d (left_context o w n k) a && widths_fit d (right_context o w n k) b) (binary_own d a o b i j) c
      (and_from (widths_fit d (left_context o w n k) a) (widths_fit d (right_context o w n k) b)
      (context_fits d (left_context o w n k) a p.0 (left_fits o w n k c i j)) (context_fits d (right_context o w n k) b p.1 (amount_fits o w n k c i j)))
  context_fits d w (Conditional c a b) h f =
      let p = and_parts (owns_fit d c) (owns_fit d a && owns_fit d b) h in
      let q = and_parts (owns_fit d a) (owns_fit d b) p.1 in
      both_fit d w (Conditional c a b) (widths_fit d (own_width d c) c && (widths_fit d w a && widths_fit d w b))
      (width_max (own_width d a) (own_width d b) (own_fits d a q.0) (own_fits d b q.1)) f
      (and_from (widths_fit d (own_width d c) c) (widths_fit d w a && widths_fit d w b) (context_fits d (own_width d c) c p.0 (own_fits d c p.0))
      (and_from (widths_fit d w a) (widths_fit d w b) (context_fits d w a q.0 f) (context_fits d w b q.1 f)))
  context_fits d w (Concatenation a as_) h c =
      let p = and_parts (is_width (own_width d (Concatenation a as_))) (owns_fit d a && all_owns_fit d as_) h in
      let q = and_parts (owns_fit d a) (all_owns_fit d as_) p.1 in
      both_fit d w (Concatenation a as_) (widths_fit d (own_width d a) a && all_widths_fit d as_) p.0 c
      (and_from (widths_fit d (own_width d a) a) (all_widths_fit d as_) (context_fits d (own_width d a) a q.0 (own_fits d a q.0)) (parts_fit d as_ q.1))
  context_fits d w (Replication k a) h c =
      let p = and_parts (is_width (own_width d (Replication k a))) (owns_fit d a) h in
      both_fit d w (Replication k a) (widths_fit d (own_width d a) a) p.0 c (context_fits d (own_width d a) a p.1 (own_fits d a p.1))
  context_fits d w (ToSigned a) h c = both_fit d w (ToSigned a) (widths_fit d (own_width d a) a) (own_fits d a h) c (context_fits d (own_width d a) a h (own_fits d a h))
  context_fits d w (ToUnsigned a) h c = both_fit d w (ToUnsigned a) (widths_fit d (own_width d a) a) (own_fits d a h) c (context_fits d (own_width d a) a h (own_fits d a h))

  parts_fit : (d : Sizes) (es : VExprs) → all_owns_fit d es ≡ true → all_widths_fit d es ≡ true
  parts_fit d NoMore h = refl
  parts_fit d (More a as_) h =
      let p = and_parts (owns_fit d a) (all_owns_fit d as_) h in
      and_from (widths_fit d (own_width d a) a) (all_widths_fit d as_) (context_fits d (own_width d a) a p.0 (own_fits d a p.0)) (parts_fit d as_ p.1)

pub alone_from_owns : (d : Sizes) (e : VExpr) → owns_fit d e ≡ true → widths_fit d (own_width d e) e ≡ true
alone_from_owns d e h = context_fits d (own_width d e) e h (own_fits d e h)

-- a right side for a target of at most 128 bits
pub right_from_owns : (d : Sizes) (n : ℕ) (e : VExpr) → n ≤ 128 → owns_fit d e ≡ true → right_fits d n e ≡ true
right_from_owns d n e le h =
    let own = own_fits d e h in
    let some = width_some (own_width d e) own in
    let most = width_most (own_width d e) own in
    context_fits d (max n (own_width d e)) e h (is_width-of (max n (own_width d e)) (omega arith) (omega arith))
