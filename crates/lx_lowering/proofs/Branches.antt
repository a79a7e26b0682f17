-- Branches and arms, each under its own condition: what the conditions are, and what one step takes.
use Rattle.std.proofs.Common.{◌≡◌, ℤ, pos, Bool, true, false, ◌&&◌, ◌||◌, not, cond, List, [], ◌∷◌, ◌++◌, Option, Some, None, refl, sym, ◌∙◌, ap, subst}
use Rattle.std.specs.Ordering.{int_eq}
use Rattle.std.proofs.lemmas.Bool.{and_parts, true≢false}
use Rattle.std.proofs.lemmas.Bool.Decides.{Decides-int_eq, same_from_decides}
use Rattle.std.proofs.lemmas.List.{append-nil}
use Rattle.lx_num.specs.declared.Shape.{Shape}
use Rattle.lx_num.specs.Ints.{wrapped, Fits}
use Rattle.lx_num.specs.Bits.{int_and}
use Rattle.lx_num.proofs.Ranges.{wrap_bits_same}
use Rattle.lx_tables.specs.declared.operators.Op.TheVariants as op
use Rattle.lx_circuit.specs.Places.{Values}
use Rattle.lx_circuit.specs.Terms.{Term, Binary}
use Rattle.lx_circuit.specs.Shapes.{Shapes, shape_of}
use Rattle.lx_circuit.specs.Values.{value_of, is_zero, flag}
use Rattle.lx_circuit.specs.Statements.{Branches, NoBranch, Branch, Block, Done, Then, Piece, taken_block}
use Rattle.lx_fhdl.specs.Nodes.{IsSmall}
use Rattle.lx_fhdl.proofs.Fitting.{fits_zero}
use Rattle.lx_lowering.specs.Terms.{never}
use Rattle.lx_lowering.specs.Flat.{some_when, holds, fails, first_branch, is_among_keys, is_value, key_of, is_key, and_none, no_key, otherwise}
use Rattle.lx_lowering.proofs.Appends.{both_taken}
use Rattle.lx_lowering.proofs.Targets.{some_when_taken}

-- ---- conditions as flags

flags_and : (t u : Bool) → int_and (flag t) (flag u) ≡ flag (t && u)
flags_and true true = refl
flags_and true false = refl
flags_and false true = refl
flags_and false false = refl

pub and_value : (s : Shapes) (v : Values) (a b : Term) (t u : Bool) → value_of s v a ≡ flag t → value_of s v b ≡ flag u → value_of s v (Binary op.And a b) ≡ flag (t && u)
and_value s v a b t u e f = ap (λ z. int_and z (value_of s v b)) e ∙ ap (λ z. int_and (flag t) z) f ∙ flags_and t u

zero_value : (a : Shape) → IsSmall a → wrapped a (pos 0) ≡ pos 0
zero_value a p = wrap_bits_same a.bits a.signed (pos 0) p.some (fits_zero a.bits a.signed)

pub holds_value : (s : Shapes) (v : Values) (c : Term) → IsSmall (shape_of s c) → value_of s v (holds s c) ≡ flag (not (is_zero (value_of s v c)))
holds_value s v c p = ap (λ z. flag (not (int_eq (value_of s v c) z))) (zero_value (shape_of s c) p)

pub fails_value : (s : Shapes) (v : Values) (c : Term) → IsSmall (shape_of s c) → value_of s v (fails s c) ≡ flag (is_zero (value_of s v c))
fails_value s v c p = ap (λ z. flag (int_eq (value_of s v c) z)) (zero_value (shape_of s c) p)

-- ---- branches

pub some_when_any : (s : Shapes) (v : Values) (c : Term) (so : Block) → taken_block s v (some_when c so) ≡ cond (is_zero (value_of s v c)) [] (taken_block s v so)
some_when_any s v c Done = sym (same (is_zero (value_of s v c)))
  where
    same : (b : Bool) → cond {A = List Piece} b [] [] ≡ []
    same true = refl
    same false = refl
some_when_any s v c (Then x xs) = append-nil (cond (is_zero (value_of s v c)) [] (taken_block s v (Then x xs)))

-- a lone branch
pub lone_taken : (s : Shapes) (v : Values) (c : Term) (b chained rest : Block) → taken_block s v (first_branch c b NoBranch chained rest) ≡ cond (is_zero (value_of s v c)) (taken_block s v rest) (taken_block s v b)
lone_taken s v c Done chained Done = some_when_any s v c Done
lone_taken s v c Done chained (Then x xs) = append-nil (cond (is_zero (value_of s v c)) (taken_block s v (Then x xs)) [])
lone_taken s v c (Then y ys) chained rest = append-nil (cond (is_zero (value_of s v c)) (taken_block s v rest) (taken_block s v (Then y ys)))

-- the first of several
pub first_taken : (s : Shapes) (v : Values) (c d : Term) (b e chained rest : Block) (more : Branches) (ps : List Piece) → taken_block s v chained ≡ cond (is_zero (value_of s v c)) ps []
    → taken_block s v (first_branch c b (Branch d e more) chained rest) ≡ cond (is_zero (value_of s v c)) ps (taken_block s v b)
first_taken s v c d b e chained rest more ps h =
    both_taken s v (some_when c b) chained (cond (is_zero (value_of s v c)) [] (taken_block s v b)) (cond (is_zero (value_of s v c)) ps []) (some_when_any s v c b) h
    ∙ joined (is_zero (value_of s v c))
  where
    joined : (q : Bool) → cond q [] (taken_block s v b) ++ cond q ps [] ≡ cond q ps (taken_block s v b)
    joined true = refl
    joined false = append-nil (taken_block s v b)

-- a further one: t says that none before it was taken, q that its own condition fails
pub further_taken : (t q : Bool) (ps qs : List Piece) → cond (t && not q) ps [] ++ cond (t && q) qs [] ≡ cond t (cond q qs ps) []
further_taken true true ps qs = refl
further_taken true false ps qs = append-nil ps
further_taken false q ps qs = refl

-- ---- arms

pub int_eq-true : (x y : ℤ) → int_eq x y ≡ true → x ≡ y
int_eq-true x y e = (Decides-int_eq x y).0 e

pub eq-int_eq : (x y : ℤ) → x ≡ y → int_eq x y ≡ true
eq-int_eq x y e = (Decides-int_eq x y).1 e

int_eq_swap : (x y : ℤ) → int_eq x y ≡ int_eq y x
int_eq_swap x y = same_from_decides (int_eq x y) (int_eq y x) (Decides-int_eq x y) (λ e. sym (int_eq-true y x e), λ e. eq-int_eq y x (sym e))

-- the condition that no arm was taken, where there were keys that can be
abbrev pub NoneIs : Shapes → Values → Option Term → Bool → Type 0
NoneIs s v None b = b ≡ true
NoneIs s v (Some c) b = value_of s v c ≡ flag b

-- an arm whose key may be the value
abbrev is_fresh : Shapes → Term → List ℤ → ℤ → Bool
is_fresh s on seen key = is_value s on key && not (is_among_keys key seen)

-- a key of the shape that no arm before had
fresh_parts : (s : Shapes) (on : Term) (seen : List ℤ) (key : ℤ) → is_fresh s on seen key ≡ true → (wrapped (shape_of s on) key ≡ key) × (not (is_among_keys key seen) ≡ true)
fresh_parts s on seen key e =
    let p = and_parts (is_value s on key) (not (is_among_keys key seen)) e in
    (int_eq-true (wrapped (shape_of s on) key) key p.0, p.1)

-- such a key stands first among the keys that equal the value
fresh_first : (s : Shapes) (on : Term) (seen : List ℤ) (key z : ℤ) (w : Bool) → is_fresh s on seen key ≡ true → int_eq key z ≡ w → (w && not (is_among_keys z seen)) ≡ w
fresh_first s on seen key z true e f = ap (λ y. not (is_among_keys y seen)) (sym (int_eq-true key z f)) ∙ (fresh_parts s on seen key e).1
fresh_first s on seen key z false e f = refl

-- any other doesn't
stale_later : (s : Shapes) (on : Term) (seen : List ℤ) (key z : ℤ) (w : Bool) → IsSmall (shape_of s on) → Fits (shape_of s on) z → is_fresh s on seen key ≡ false → int_eq key z ≡ w → (w && not (is_among_keys z seen)) ≡ false
stale_later s on seen key z true p g e f =
    let same = int_eq-true key z f in
    let valued : is_value s on z ≡ true = eq-int_eq (wrapped (shape_of s on) z) z (wrap_bits_same (shape_of s on).bits (shape_of s on).signed z p.some g) in
    sym (ap (λ b. b && not (is_among_keys z seen)) valued) ∙ ap (λ y. is_fresh s on seen y) (sym same) ∙ e
stale_later s on seen key z false p g e f = refl

-- the condition of an arm: its key is the value, and no key before it was
pub is_key_value : (s : Shapes) (v : Values) (on : Term) (seen : List ℤ) (key : ℤ) → IsSmall (shape_of s on) → Fits (shape_of s on) (value_of s v on)
    → value_of s v (is_key s on seen key) ≡ flag (int_eq key (value_of s v on) && not (is_among_keys (value_of s v on) seen))
is_key_value s v on seen key p g = by_fresh (is_fresh s on seen key) refl
  where
    by_fresh : (b : Bool) → is_fresh s on seen key ≡ b → value_of s v (cond b (Binary op.Eq on (key_of s on key)) never) ≡ flag (int_eq key (value_of s v on) && not (is_among_keys (value_of s v on) seen))
    by_fresh true e =
        ap (λ y. flag (int_eq (value_of s v on) y)) (fresh_parts s on seen key e).0
        ∙ ap flag (int_eq_swap (value_of s v on) key)
        ∙ ap flag (sym (fresh_first s on seen key (value_of s v on) (int_eq key (value_of s v on)) e refl))
    by_fresh false e = ap flag (sym (stale_later s on seen key (value_of s v on) (int_eq key (value_of s v on)) p g e refl))

nor : (h w : Bool) → (not h && not w) ≡ not (w || h)
nor true true = refl
nor true false = refl
nor false true = refl
nor false false = refl

nor_alone : (h w : Bool) → not h ≡ true → not w ≡ not (w || h)
nor_alone true w e = absurd (true≢false (sym e))
nor_alone false true e = refl
nor_alone false false e = refl

nor_stale : (h w : Bool) → (w && not h) ≡ false → not h ≡ not (w || h)
nor_stale true true e = refl
nor_stale true false e = refl
nor_stale false true e = absurd (true≢false e)
nor_stale false false e = refl

and_none_value : (s : Shapes) (v : Values) (none : Option Term) (c : Term) (h w : Bool) → NoneIs s v none (not h) → value_of s v c ≡ flag (not w) → NoneIs s v (and_none none c) (not (w || h))
and_none_value s v None c h w n e = e ∙ ap flag (nor_alone h w n)
and_none_value s v (Some d) c h w n e = and_value s v d c (not h) (not w) n e ∙ ap flag (nor h w)

-- no key so far is the value, and this one isn't
pub no_key_value : (s : Shapes) (v : Values) (on : Term) (seen : List ℤ) (none : Option Term) (key : ℤ) → IsSmall (shape_of s on) → Fits (shape_of s on) (value_of s v on) → NoneIs s v none (not (is_among_keys (value_of s v on) seen))
    → NoneIs s v (no_key s on seen none key) (not (is_among_keys (value_of s v on) (key ∷ seen)))
no_key_value s v on seen none key p g n = by_fresh (is_fresh s on seen key) refl
  where
    by_fresh : (b : Bool) → is_fresh s on seen key ≡ b → NoneIs s v (cond b (and_none none (Binary op.Ne on (key_of s on key))) none) (not (is_among_keys (value_of s v on) (key ∷ seen)))
    by_fresh true e =
        and_none_value s v none (Binary op.Ne on (key_of s on key)) (is_among_keys (value_of s v on) seen) (int_eq key (value_of s v on)) n
        (ap (λ y. flag (not (int_eq (value_of s v on) y))) (fresh_parts s on seen key e).0 ∙ ap (λ b. flag (not b)) (int_eq_swap (value_of s v on) key))
    by_fresh false e =
        subst (λ b. NoneIs s v none b)
        (nor_stale (is_among_keys (value_of s v on) seen) (int_eq key (value_of s v on)) (stale_later s on seen key (value_of s v on) (int_eq key (value_of s v on)) p g e refl)) n

pub otherwise_taken : (s : Shapes) (v : Values) (none : Option Term) (rest : Block) (h : Bool) → NoneIs s v none (not h) → taken_block s v (otherwise none rest) ≡ cond h [] (taken_block s v rest)
otherwise_taken s v None rest true n = absurd (true≢false (sym n))
otherwise_taken s v None rest false n = refl
otherwise_taken s v (Some c) rest true n = some_when_taken s v c rest false n
otherwise_taken s v (Some c) rest false n = some_when_taken s v c rest true n

-- an arm: w says that its key is the value, h that a key before it was
pub arm_taken : (w h : Bool) (ps qs : List Piece) → cond (w && not h) ps [] ++ cond (w || h) [] qs ≡ cond h [] (cond w ps qs)
arm_taken true true ps qs = refl
arm_taken true false ps qs = append-nil ps
arm_taken false true ps qs = refl
arm_taken false false ps qs = refl
