-- Arms one after the other: the keys that were seen, and the conditions of keys.
use Rattle.std.proofs.Common.{◌≡◌, ℕ, ℤ, ◌+◌, ◌<◌, Bool, true, false, ◌||◌, List, [], ◌∷◌, ◌++◌, Option, Some, None, cond, length, take, get_or, refl, sym, ap, subst, ◌∙◌, ◌≤◌, arith, inl, inr, add-one}
use Rattle.std.specs.Ordering.{int_cmp, int_eq}
use Rattle.std.specs.BTreeSet.{BTreeSet, contains}
use Rattle.std.specs.List.{list_any}
use Rattle.std.proofs.Math.Seq.{take-suc}
use Rattle.lx_circuit.specs.Shapes.{Shapes, joined, shape_of}
use Rattle.lx_circuit.specs.Terms.{Binary, Term}
use Rattle.lx_fhdl.specs.Below.{ExprId}
use Rattle.lx_fhdl.specs.declared.stmts.Arm.{Arm}
use Rattle.lx_tables.specs.declared.operators.Op.TheVariants as op
use Rattle.lx_lowering.specs.Flat.{and_none, is_among_keys, is_key, is_value, key_of, no_key}
use Rattle.lx_fhdl.specs.Designs.{shapes, term}
use Rattle.lx_fhdl.specs.declared.design.Design.{Design}
use Rattle.lx_plain.specs.Lines.{has_key}
use Rattle.lx_flat.specs.Keys.{AreBits, AreFresh, fresh_at, is_fresh, key_at, keys_onto, seen_keys, none_of, NonePut, none_after}
use Rattle.lx_plain.proofs.Sound.{grows_same, grows_then, same_shapes, term_kept}
use Rattle.lx_plain.specs.Plain.{IsBit, TermPut}
use Rattle.lx_num.specs.declared.Shape.{Shape}
use Rattle.lx_num.specs.Ints.{unsigned, wrapped}
use Rattle.lx_lowering.specs.Terms.{never}
use Rattle.lx_lowering.proofs.Branches.{int_eq-true}
use Rattle.std.specs.Prelude.{pos, ◌&&◌, not}
use Rattle.std.proofs.lemmas.Bool.{cases_lt, true≢false}
use Rattle.std.proofs.lemmas.List.{get_or_append_left, get_or_default, get_or_push, length_push}

-- ---- keys that were seen

keys_last : (seen : List ℤ) (arms : List Arm) (a : Arm) → keys_onto seen (arms ++ a ∷ []) ≡ a.key ∷ keys_onto seen arms
keys_last seen [] a = refl
keys_last seen (b ∷ more) a = keys_last (b.key ∷ seen) more a

pub arms_next : (arms : List Arm) (k : ℕ) (z : Arm) → k < length arms → take (k + 1) arms ≡ take k arms ++ get_or arms k z ∷ []
arms_next arms k z l = ap (λ (j : ℕ). take j arms) (add-one k) ∙ take-suc arms k z l

pub keys_next : (arms : List Arm) (k : ℕ) (z : Arm) → k < length arms → seen_keys (take (k + 1) arms) ≡ (get_or arms k z).key ∷ seen_keys (take k arms)
keys_next arms k z l = ap seen_keys (arms_next arms k z l) ∙ keys_last [] (take k arms) (get_or arms k z)

among_next : (arms : List Arm) (k : ℕ) (z : Arm) (key : ℤ) (b : Bool) → k < length arms → z ≡ get_or arms k z → int_eq z.key key ≡ b → is_among_keys key (seen_keys (take (k + 1) arms)) ≡ (b || is_among_keys key (seen_keys (take k arms)))
among_next arms k z key b l e f =
    ap (is_among_keys key) (keys_next arms k z l)
    ∙ ap (λ (c : Bool). c || is_among_keys key (seen_keys (take k arms))) (ap (λ (a : Arm). int_eq a.key key) (sym e) ∙ f)

-- the set of the keys that were seen
abbrev pub HasSeen : List Arm → ℕ → BTreeSet ℤ → Type 0
HasSeen arms k set = (q : ℤ) → contains int_cmp set q ≡ is_among_keys q (seen_keys (take k arms))

pub seen_none : (arms : List Arm) (set : BTreeSet ℤ) → set.keys ≡ [] → HasSeen arms 0 set
seen_none arms set e q = ap (list_any (int_eq q)) e

pub seen_more : (arms : List Arm) (k : ℕ) (z : Arm) (old new : BTreeSet ℤ) → k < length arms → z ≡ get_or arms k z → HasSeen arms k old → ((q : ℤ) → contains int_cmp new q ≡ cond (int_eq z.key q) true (contains int_cmp old q)) → HasSeen arms (k + 1) new
seen_more arms k z old new l e h f q = f q ∙ ap (cond (int_eq z.key q) true) (h q) ∙ either (int_eq z.key q) (is_among_keys q (seen_keys (take k arms))) ∙ sym (among_next arms k z q (int_eq z.key q) l e refl)
  where
    either : (b c : Bool) → cond b true c ≡ (b || c)
    either true c = refl
    either false c = refl

-- ---- the condition that an expression is no key

none_last : (s : Shapes) (on : Term) (seen : List ℤ) (before : Option Term) (arms : List Arm) (a : Arm) → none_after s on seen before (arms ++ a ∷ []) ≡ no_key s on (keys_onto seen arms) (none_after s on seen before arms) a.key
none_last s on seen before [] a = refl
none_last s on seen before (b ∷ more) a = none_last s on (b.key ∷ seen) (no_key s on seen before b.key) more a

pub none_more : (x y z : Design) (a b : Option ExprId) (arms : List Arm) (k on : ℕ) (m : Arm) (fresh : Bool) → k < length arms → m ≡ get_or arms k m → on < length x.exprs
    → NonePut x y a (none_after (shapes x) (term x on) [] None (take k arms))
    → cond fresh (and_none (none_of y a) (Binary op.Ne (term x on) (key_of (shapes x) (term x on) m.key))) (none_of y a) ≡ no_key (shapes x) (term x on) (seen_keys (take k arms)) (none_of y a) m.key
    → NonePut y z b (cond fresh (and_none (none_of y a) (Binary op.Ne (term y on) (key_of (shapes y) (term y on) m.key))) (none_of y a))
    → NonePut x z b (none_after (shapes x) (term x on) [] None (take (k + 1) arms))
none_more x y z a b arms k on m fresh l e there p is q =
    let s = shapes x in
    let seen = seen_keys (take k arms) in
    record {
      grows = grows_then p.grows q.grows;
      bit = q.bit;
      tree =
          q.tree
          ∙ ap (λ (r : Shapes). cond fresh (and_none (none_of y a) (Binary op.Ne (term y on) (key_of r (term y on) m.key))) (none_of y a)) (same_shapes x y p.grows.signals)
          ∙ ap (λ (t : Term). cond fresh (and_none (none_of y a) (Binary op.Ne t (key_of s t m.key))) (none_of y a)) (term_kept on p.grows there)
          ∙ is
          ∙ ap (λ (o : Option Term). no_key s (term x on) seen o m.key) p.tree
          ∙ ap (λ (c : Arm). no_key s (term x on) seen (none_after s (term x on) [] None (take k arms)) c.key) e
          ∙ sym (none_last s (term x on) [] None (take k arms) (get_or arms k m))
          ∙ ap (none_after s (term x on) [] None) (sym (arms_next arms k m l));
    }

pub none_start : (x : Design) (s : Shapes) (on : Term) → NonePut x x None (none_after s on [] None (take 0 []))
none_start x s on = record { grows = grows_same x; bit = tt; tree = refl }

-- ---- whether some key is a value

abbrev pub is_some : Option Term → Bool
is_some None = false
is_some (Some t) = true

stays_some : (s : Shapes) (on : Term) (seen : List ℤ) (c : Term) (arms : List Arm) → is_some (none_after s on seen (Some c) arms) ≡ true
stays_some s on seen c [] = refl
stays_some s on seen c (a ∷ more) = by_test (is_value s on a.key && not (is_among_keys a.key seen)) (λ (d : Term). stays_some s on (a.key ∷ seen) d more)
  where
    other : Term
    other = Binary op.Ne on (key_of s on a.key)

    by_test : (b : Bool) → ((d : Term) → is_some (none_after s on (a.key ∷ seen) (Some d) more) ≡ true) → is_some (none_after s on (a.key ∷ seen) (cond b (and_none (Some c) other) (Some c)) more) ≡ true
    by_test true h = h (Binary op.And c other)
    by_test false h = h c

-- no key that was seen is a value
abbrev NoValue : Shapes → Term → List ℤ → Type 0
NoValue s on seen = (key : ℤ) → is_value s on key ≡ true → is_among_keys key seen ≡ false

no_value_more : (s : Shapes) (on : Term) (seen : List ℤ) (k : ℤ) → NoValue s on seen → is_value s on k ≡ false → NoValue s on (k ∷ seen)
no_value_more s on seen k h e key f = by_same (int_eq k key) refl
  where
    by_same : (b : Bool) → int_eq k key ≡ b → (b || is_among_keys key seen) ≡ false
    by_same true q =
        let same : k ≡ key = int_eq-true k key q in
        absurd (true≢false (sym f ∙ ap (is_value s on) (sym same) ∙ e))
    by_same false q = h key f

key_found : (s : Shapes) (on : Term) (seen : List ℤ) (arms : List Arm) → NoValue s on seen → is_some (none_after s on seen None arms) ≡ has_key (shape_of s on) arms
key_found s on seen [] h = refl
key_found s on seen (a ∷ more) h = by_value (is_value s on a.key) refl (key_found s on (a.key ∷ seen) more)
  where
    other : Term
    other = Binary op.Ne on (key_of s on a.key)

    by_value : (b : Bool) → is_value s on a.key ≡ b → (NoValue s on (a.key ∷ seen) → is_some (none_after s on (a.key ∷ seen) None more) ≡ has_key (shape_of s on) more)
        → is_some (none_after s on (a.key ∷ seen) (cond (b && not (is_among_keys a.key seen)) (Some other) None) more) ≡ (b || has_key (shape_of s on) more)
    by_value true e later = ap (λ (b : Bool). is_some (none_after s on (a.key ∷ seen) (cond (not b) (Some other) None) more)) (h a.key e) ∙ stays_some s on (a.key ∷ seen) other more
    by_value false e later = later (no_value_more s on seen a.key h e)

-- a condition stands for no key exactly where some key is a value
pub some_key : (s : Shapes) (on : Term) (arms : List Arm) (c : Term) → Some c ≡ none_after s on [] None arms → has_key (shape_of s on) arms ≡ true
some_key s on arms c e = sym (key_found s on [] arms (λ key f. refl)) ∙ ap is_some (sym e)

pub no_key_there : (s : Shapes) (on : Term) (arms : List Arm) → None ≡ none_after s on [] None arms → has_key (shape_of s on) arms ≡ false
no_key_there s on arms e = sym (key_found s on [] arms (λ key f. refl)) ∙ ap is_some (sym e)

-- ---- fresh keys

pub fresh_none : (a : Shape) (arms : List Arm) → AreFresh a arms 0 []
fresh_none a arms = record { long = refl; each = λ k l. absurd (omega arith) }

pub fresh_as : {a b : Shape} {arms : List Arm} {n : ℕ} {fresh : List Bool} → a ≡ b → AreFresh a arms n fresh → AreFresh b arms n fresh
fresh_as {arms = arms} {n = n} {fresh = fresh} e h = subst (λ (s : Shape). AreFresh s arms n fresh) e h

key_is_at : (arms : List Arm) (k : ℕ) (z : Arm) → k < length arms → z ≡ get_or arms k z → key_at arms k ≡ z.key
key_is_at arms k z l e = ap (λ (a : Arm). a.key) (get_or_default arms k (record { key = pos 0; body = [] }) z l ∙ sym e)

pub fresh_is : (a : Shape) (arms : List Arm) (k n : ℕ) (z : Arm) (fresh : List Bool) → k < length arms → z ≡ get_or arms k z → AreFresh a arms n fresh → k < n → fresh_at fresh k ≡ (int_eq (wrapped a z.key) z.key && not (is_among_keys z.key (seen_keys (take k arms))))
fresh_is a arms k n z fresh l e h m = h.each k m ∙ ap (λ (key : ℤ). int_eq (wrapped a key) key && not (is_among_keys key (seen_keys (take k arms)))) (key_is_at arms k z l e)

pub fresh_more : (a : Shape) (arms : List Arm) (n : ℕ) (fresh : List Bool) (z : Arm) (own : Bool) → AreFresh a arms n fresh → n < length arms → z ≡ get_or arms n z → own ≡ (int_eq (wrapped a z.key) z.key && not (is_among_keys z.key (seen_keys (take n arms))))
    → AreFresh a arms (n + 1) (fresh ++ own ∷ [])
fresh_more a arms n fresh z own h l e f = record {
  long = length_push fresh own ∙ ap (λ (k : ℕ). k + 1) h.long;
  each = λ k m.
      elim (cases_lt k n) [
        | inl p ↦ get_or_append_left fresh (own ∷ []) false k (omega (arith, h.long)) ∙ h.each k p
        | inr p ↦
            let q : n ≡ k = omega arith in
            get_or_push fresh own false k (h.long ∙ q)
            ∙ f
            ∙ ap (λ (key : ℤ). int_eq (wrapped a key) key && not (is_among_keys key (seen_keys (take n arms)))) (sym (key_is_at arms n z l e))
            ∙ ap (is_fresh a arms) q
      ];
}

pub fresh_all : (a : Shape) (arms : List Arm) (n : ℕ) (fresh : List Bool) → length arms ≤ n → n ≤ length arms → AreFresh a arms n fresh → AreFresh a arms (length arms) fresh
fresh_all a arms n fresh l m h = let e : n ≡ length arms = omega arith in subst (λ (k : ℕ). AreFresh a arms k fresh) e h

-- the conditions of keys, from whether they are fresh
pub key_is : (s : Shapes) (on : Term) (seen : List ℤ) (key : ℤ) (a : Shape) (fresh : Bool) → shape_of s on ≡ a → fresh ≡ (int_eq (wrapped a key) key && not (is_among_keys key seen)) → cond fresh (Binary op.Eq on (key_of s on key)) never ≡ is_key s on seen key
key_is s on seen key a fresh e f = ap (λ (b : Bool). cond b (Binary op.Eq on (key_of s on key)) never) (f ∙ ap (λ (c : Shape). int_eq (wrapped c key) key && not (is_among_keys key seen)) (sym e))

pub no_key_is : (s : Shapes) (on : Term) (seen : List ℤ) (none : Option Term) (key : ℤ) (a : Shape) (fresh : Bool) → shape_of s on ≡ a → fresh ≡ (int_eq (wrapped a key) key && not (is_among_keys key seen)) → cond fresh (and_none none (Binary op.Ne on (key_of s on key))) none ≡ no_key s on seen none key
no_key_is s on seen none key a fresh e f = ap (λ (b : Bool). cond b (and_none none (Binary op.Ne on (key_of s on key))) none) (f ∙ ap (λ (c : Shape). int_eq (wrapped c key) key && not (is_among_keys key seen)) (sym e))

-- a condition more that stands for no key
pub and_none_put : (x y z : Design) (before : Option ExprId) (i other id : ExprId) {a b : Term} → AreBits x before → before ≡ Some i → TermPut x y other.place (Binary op.Ne a b) → TermPut y z id.place (Binary op.And (term y i.place) (term y other.place))
    → NonePut x z (Some id) (and_none (none_of x before) (Binary op.Ne a b))
and_none_put x y z before i other id {a} {b} h e p q =
    let bit : IsBit x i.place = subst (AreBits x) e h in
    let s = shapes x in
    record {
      grows = grows_then p.grows q.grows;
      bit = record {
        there = q.within;
        bit =
            ap (λ (r : Shapes). shape_of r (term z id.place)) (same_shapes x z (q.grows.signals ∙ p.grows.signals))
            ∙ ap (shape_of s) (q.tree ∙ ap (λ (u : Term). Binary op.And u (term y other.place)) (term_kept i.place p.grows bit.there) ∙ ap (Binary op.And (term x i.place)) p.tree)
            ∙ ap (λ (c : Shape). joined c (unsigned 1)) bit.bit;
      };
      tree = ap (λ (u : Term). Some u) (q.tree ∙ ap (λ (u : Term). Binary op.And u (term y other.place)) (term_kept i.place p.grows bit.there) ∙ ap (Binary op.And (term x i.place)) p.tree)
          ∙ sym (ap (λ (o : Option ExprId). and_none (none_of x o) (Binary op.Ne a b)) e);
    }
