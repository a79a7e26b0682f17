-- The marks of signals after a driving more.
use Rattle.std.proofs.Common.{◌≡◌, ℕ, zero, suc, ◌+◌, ◌<◌, ◌≤◌, Bool, true, false, ◌||◌, ◌&&◌, List, [], ◌∷◌, ◌++◌, Option, Some, None, length, get_or, set, map, take, replicate, refl, sym, ◌∙◌, ap, subst, nat_eq, nat_lt, not, arith, eq-eqb, cond}
use Rattle.std.specs.Prelude.{IsTrue, option_map, slice_get, slice_index_or, if◌then◌else◌}
use Rattle.std.specs.List.{find, list_all}
use Rattle.std.specs.Option.{option_and_then, option_or}
use Rattle.std.proofs.lemmas.Bool.{and_parts, eqb-true, ltb-true, true≢false}
use Rattle.std.proofs.lemmas.List.{get_or-set_same, get_or-set_other, length-replicate, length-set, take_all, take_more}
use Rattle.std.proofs.lemmas.List.Folds.{find-append}
use Rattle.lx_reads.specs.Drivings.{Driving, first_driving}
use Rattle.lx_reads.specs.Net.{driving_of}
use Rattle.lx_reads.specs.declared.net.Driven.{Driven}
use Rattle.lx_check.specs.Faults.{any_driving, is_apart, is_described, second_driving}
use Rattle.lx_check.specs.Marks.{AreMarks, IsMark, are_below, differs, marked, no_mark, or_wanted}
use Rattle.lx_check.specs.declared.marks.Mark.{Mark}

abbrev drives_it : ℕ → (Driving → Bool) → Driving → Bool
drives_it x test a = nat_eq a.signal x && test a

or_map : (o : Option Driven) (a : Driven) (w : Bool) → option_map driving_of (or_wanted o a w) ≡ option_or (option_map driving_of o) (if w then Some (driving_of a) else None)
or_map None a true = refl
or_map None a false = refl
or_map (Some b) a w = refl

find_one : (x : ℕ) (test : Driving → Bool) (b : Driving) → nat_eq b.signal x ≡ true → find (drives_it x test) (b ∷ []) ≡ (if test b then Some b else None)
find_one x test b e = ap (λ (v : Bool). cond (v && test b) (Some b) None) e

find_other : (x : ℕ) (test : Driving → Bool) (b : Driving) → nat_eq b.signal x ≡ false → find (drives_it x test) (b ∷ []) ≡ None
find_other x test b e = ap (λ (v : Bool). cond (v && test b) (Some b) None) e

or_none : (o : Option Driving) → option_or o None ≡ o
or_none None = refl
or_none (Some a) = refl

-- a driving of the signal more
first_more : (x : ℕ) (test : Driving → Bool) (all : List Driving) (a : Driven) (o : Option Driven) (w : Bool) → nat_eq a.signal x ≡ true → w ≡ test (driving_of a) → option_map driving_of o ≡ first_driving x test all
    → option_map driving_of (or_wanted o a w) ≡ first_driving x test (all ++ driving_of a ∷ [])
first_more x test all a o w e t h =
    or_map o a w
    ∙ ap (λ (v : Option Driving). option_or v (if w then Some (driving_of a) else None)) h
    ∙ ap (λ (v : Bool). option_or (first_driving x test all) (if v then Some (driving_of a) else None)) t
    ∙ ap (option_or (first_driving x test all)) (sym (find_one x test (driving_of a) e))
    ∙ sym (find-append (drives_it x test) all (driving_of a ∷ []))

-- one of another signal
first_other : (x : ℕ) (test : Driving → Bool) (all : List Driving) (b : Driving) → nat_eq b.signal x ≡ false → first_driving x test (all ++ b ∷ []) ≡ first_driving x test all
first_other x test all b e = find-append (drives_it x test) all (b ∷ []) ∙ ap (option_or (first_driving x test all)) (find_other x test b e) ∙ or_none (first_driving x test all)

-- what no driving passes, no narrower test finds
narrower : (x : ℕ) (test : Driving → Bool) (all : List Driving) → first_driving x any_driving all ≡ None → first_driving x test all ≡ None
narrower x test [] h = refl
narrower x test (b ∷ bs) h = by_answer (nat_eq b.signal x) refl (λ p. narrower x test bs p)
  where
    by_answer : (v : Bool) → nat_eq b.signal x ≡ v → (first_driving x any_driving bs ≡ None → first_driving x test bs ≡ None) → first_driving x test (b ∷ bs) ≡ None
    by_answer true e more =
        let p : cond (true && true) (Some b) (first_driving x any_driving bs) ≡ None = ap (λ (v : Bool). cond (v && true) (Some b) (first_driving x any_driving bs)) (sym e) ∙ h in absurd (cc)
    by_answer false e more =
        let p : first_driving x any_driving bs ≡ None = ap (λ (v : Bool). cond (v && true) (Some b) (first_driving x any_driving bs)) (sym e) ∙ h in
        ap (λ (v : Bool). cond (v && test b) (Some b) (first_driving x test bs)) e ∙ more p

itself : (k : ℕ) → not (nat_eq k k) ≡ false
itself k = ap not (eq-eqb k k refl)

second_more : (x : ℕ) (all : List Driving) (a : Driven) (first second : Option Driven) → nat_eq a.signal x ≡ true → option_map driving_of first ≡ first_driving x any_driving all → option_map driving_of second ≡ second_driving x all
    → option_map driving_of (or_wanted second a (differs first a)) ≡ second_driving x (all ++ driving_of a ∷ [])
second_more x all a None second e h s =
    let b = driving_of a in
    let one : option_map driving_of (or_wanted None a true) ≡ first_driving x any_driving (all ++ b ∷ []) = first_more x any_driving all a None true e refl h in
    let before : option_map driving_of second ≡ None = s ∙ ap (option_and_then (λ (c : Driving). first_driving x (is_apart c) all)) (sym h) in
    or_map second a false ∙ or_none (option_map driving_of second) ∙ before
    ∙ sym (find-append (drives_it x (is_apart b)) all (b ∷ [])
    ∙ ap (λ (v : Option Driving). option_or v (find (drives_it x (is_apart b)) (b ∷ []))) (narrower x (is_apart b) all (sym h))
    ∙ find_one x (is_apart b) b e
    ∙ ap (λ (v : Bool). if v then Some b else None) (itself a.driver))
    ∙ ap (option_and_then (λ (c : Driving). first_driving x (is_apart c) (all ++ b ∷ []))) one
second_more x all a (Some f) second e h s =
    let b = driving_of a in
    let one : Some (driving_of f) ≡ first_driving x any_driving (all ++ b ∷ []) = first_more x any_driving all a (Some f) true e refl h in
    let before : option_map driving_of second ≡ first_driving x (is_apart (driving_of f)) all = s ∙ ap (option_and_then (λ (c : Driving). first_driving x (is_apart c) all)) (sym h) in
    first_more x (is_apart (driving_of f)) all a second (differs (Some f) a) e refl before
    ∙ ap (option_and_then (λ (c : Driving). first_driving x (is_apart c) (all ++ b ∷ []))) one

mark_more : (x : ℕ) (all : List Driving) (a : Driven) (m : Mark) → nat_eq a.signal x ≡ true → IsMark x all m → IsMark x (all ++ driving_of a ∷ []) (marked m a)
mark_more x all a m e h = record {
  described = first_more x is_described all a m.described (not (nat_eq a.line 0)) e refl h.described;
  first = first_more x any_driving all a m.first true e refl h.first;
  second = second_more x all a m.first m.second e h.first h.second;
}

second_other : (x : ℕ) (all : List Driving) (b : Driving) → nat_eq b.signal x ≡ false → second_driving x (all ++ b ∷ []) ≡ second_driving x all
second_other x all b e =
    ap (option_and_then (λ (c : Driving). first_driving x (is_apart c) (all ++ b ∷ []))) (first_other x any_driving all b e)
    ∙ by_first (first_driving x any_driving all)
  where
    by_first : (o : Option Driving) → option_and_then (λ (c : Driving). first_driving x (is_apart c) (all ++ b ∷ [])) o ≡ option_and_then (λ (c : Driving). first_driving x (is_apart c) all) o
    by_first None = refl
    by_first (Some c) = first_other x (is_apart c) all b e

mark_other : (x : ℕ) (all : List Driving) (b : Driving) (m : Mark) → nat_eq b.signal x ≡ false → IsMark x all m → IsMark x (all ++ b ∷ []) m
mark_other x all b m e h = record {
  described = h.described ∙ sym (first_other x is_described all b e);
  first = h.first ∙ sym (first_other x any_driving all b e);
  second = h.second ∙ sym (second_other x all b e);
}

-- ---- all signals

no_marks_at : (n x : ℕ) → slice_index_or (replicate n no_mark) x no_mark ≡ no_mark
no_marks_at zero x = refl
no_marks_at (suc n) zero = refl
no_marks_at (suc n) (suc x) = no_marks_at n x

pub marks_none : (marks : List Mark) → marks ≡ replicate (length marks) no_mark → AreMarks (length marks) [] marks
marks_none marks e = record {
  long = refl;
  each = λ x l. subst (λ (m : Mark). IsMark x [] m) (sym (ap (λ (ms : List Mark). slice_index_or ms x no_mark) e ∙ no_marks_at (length marks) x)) (record { described = refl; first = refl; second = refl });
}

marks_next : (n : ℕ) (all : List Driving) (marks : List Mark) (a : Driven) → a.signal < n → AreMarks n all marks → AreMarks n (all ++ driving_of a ∷ []) (set marks a.signal (marked (get_or marks a.signal no_mark) a))
marks_next n all marks a l h = record {
  long = length-set marks a.signal (marked (get_or marks a.signal no_mark) a) ∙ h.long;
  each = λ x lt. by_answer x lt (nat_eq a.signal x) refl;
}
  where
    new : Mark
    new = marked (get_or marks a.signal no_mark) a

    by_answer : (x : ℕ) → x < n → (v : Bool) → nat_eq a.signal x ≡ v → IsMark x (all ++ driving_of a ∷ []) (get_or (set marks a.signal new) x no_mark)
    by_answer x lt true e =
        let same : a.signal ≡ x = eqb-true a.signal x e in
        let is : get_or (set marks a.signal new) x no_mark ≡ new = ap (λ (k : ℕ). get_or (set marks a.signal new) k no_mark) (sym same) ∙ get_or-set_same marks a.signal new no_mark (omega (arith, h.long, l)) in
        let old : IsMark x all (get_or marks a.signal no_mark) = subst (λ (k : ℕ). IsMark x all (get_or marks k no_mark)) (sym same) (h.each x lt) in
        subst (λ (m : Mark). IsMark x (all ++ driving_of a ∷ []) m) (sym is) (mark_more x all a (get_or marks a.signal no_mark) e old)
    by_answer x lt false e =
        let is : get_or (set marks a.signal new) x no_mark ≡ get_or marks x no_mark = get_or-set_other marks a.signal x new no_mark (λ p. true≢false (sym (eq-eqb a.signal x (sym p)) ∙ e)) in
        subst (λ (m : Mark). IsMark x (all ++ driving_of a ∷ []) m) (sym is) (mark_other x all (driving_of a) (get_or marks x no_mark) e (h.each x lt))

pub map_push : (xs : List Driven) (a : Driven) → map driving_of (xs ++ a ∷ []) ≡ map driving_of xs ++ driving_of a ∷ []
map_push [] a = refl
map_push (x ∷ xs) a = ap (λ (v : List Driving). driving_of x ∷ v) (map_push xs a)

pub below_at : (n : ℕ) (driven : List Driven) (k : ℕ) (z : Driven) → IsTrue (are_below n driven) → k < length driven → (get_or driven k z).signal < n
below_at n [] k z p h = absurd (omega arith)
below_at n (a ∷ as_) zero z p h = ltb-true a.signal n (and_parts (nat_lt a.signal n) (are_below n as_) (search p)).0
below_at n (a ∷ as_) (suc k) z p h = below_at n as_ k z (search ((and_parts (nat_lt a.signal n) (are_below n as_) (search p)).1)) (omega arith)

-- one more of the drivings of a list
pub marks_more : (n : ℕ) (driven : List Driven) (k : ℕ) (z : Driven) (marks new : List Mark) → k < length driven → IsTrue (are_below n driven) → new ≡ set marks (get_or driven k z).signal (marked (get_or marks (get_or driven k z).signal no_mark) (get_or driven k z))
    → AreMarks n (map driving_of (take k driven)) marks → AreMarks n (map driving_of (take (k + 1) driven)) new
marks_more n driven k z marks new l below e h =
    let a = get_or driven k z in
    let next = marks_next n (map driving_of (take k driven)) marks a (below_at n driven k z below l) h in
    let long : map driving_of (take k driven) ++ driving_of a ∷ [] ≡ map driving_of (take (k + 1) driven) = sym (map_push (take k driven) a) ∙ ap (map driving_of) (sym (take_more driven k z l)) in
    subst (AreMarks n (map driving_of (take (k + 1) driven))) (sym e) (subst (λ (xs : List Driving). AreMarks n xs (set marks a.signal (marked (get_or marks a.signal no_mark) a))) long next)

pub marks_done : (n k : ℕ) (driven : List Driven) (marks : List Mark) → length driven ≤ k → AreMarks n (map driving_of (take k driven)) marks → AreMarks n (map driving_of driven) marks
marks_done n k driven marks l h = subst (λ (xs : List Driven). AreMarks n (map driving_of xs) marks) (take_all k driven l) h
