-- Names that grow by one.
use Rattle.std.proofs.Common.{◌≡◌, ℕ, zero, suc, ◌+◌, ◌<◌, ◌≤◌, Bool, true, false, not, ◌&&◌, ◌||◌, List, [], ◌∷◌, ◌++◌, length, refl, sym, ap, ◌∙◌, arith, length-append}
use Rattle.std.specs.List.{list_all, list_any}
use Rattle.std.specs.Str.{bytes_eq}
use Rattle.std.proofs.lemmas.Bool.{and_parts, and_from, or_from, not-true}
use Rattle.std.proofs.lemmas.List.Folds.{list_all-append, list_any-append}
use Rattle.std.proofs.lemmas.Slice.Eq.{bytes_eq-Decides}
use Rattle.lx_vtext.specs.Tree.{Name}
use Rattle.lx_vtext.specs.Names.{is_name}
use Rattle.lx_vtext.specs.Printed.{number_text}
use Rattle.lx_vtext.specs.Reading.{number_value}
use Rattle.lx_vtext.proofs.Pieces.{number_back}
use Rattle.lx_fhdl.specs.Keeping.{is_distinct}
use Rattle.lx_emission.specs.Naming.{is_among, node_name}
use Rattle.lx_emission.proofs.Lawful.{dollar_lawful}
use Rattle.lx_emission.proofs.Lists.{name_other}
use Rattle.lx_bench.specs.Fans.{AreNames, spelled}

spelled_once : (a b : ℕ) → spelled a ≡ spelled b → a ≡ b
unfolding spelled
spelled_once a b e =
    let texts : number_text a ≡ number_text b = cc in
    sym (number_back a).0 ∙ ap number_value texts ∙ (number_back b).0

spelled_lawful : (x : ℕ) → is_name (spelled x) ≡ true
unfolding spelled
spelled_lawful x = dollar_lawful 115 x refl

not_node : (k x : ℕ) → bytes_eq (node_name k) (spelled x) ≡ false
unfolding node_name spelled
not_node k x = refl

-- a name that is none of the others, at their end
not_last : (n m : Name) (ms : List Name) → is_among n (m ∷ ms) ≡ false → bytes_eq m n ≡ false
not_last n m ms h = by (bytes_eq n m) refl h
  where
    by : (b : Bool) → bytes_eq n m ≡ b → (b || is_among n ms) ≡ false → bytes_eq m n ≡ false
    by true e g = absurd cc
    by false e g = name_other m n (λ s. let t : bytes_eq n m ≡ true = (bytes_eq-Decides n m).1 (sym s) in cc)

not_rest : (n m : Name) (ms : List Name) → is_among n (m ∷ ms) ≡ false → is_among n ms ≡ false
not_rest n m ms h = by (bytes_eq n m) h
  where
    by : (b : Bool) → (b || is_among n ms) ≡ false → is_among n ms ≡ false
    by true g = absurd cc
    by false g = g

among_more : (k n : Name) (ns : List Name) → is_among k ns ≡ false → bytes_eq k n ≡ false → is_among k (ns ++ n ∷ []) ≡ false
among_more k n ns h e = list_any-append (bytes_eq k) ns (n ∷ []) ∙ or_from (is_among k ns) (bytes_eq k n || false) h (or_from (bytes_eq k n) false e refl)

distinct_more : (n : Name) (ns : List Name) → is_distinct ns ≡ true → is_among n ns ≡ false → is_distinct (ns ++ n ∷ []) ≡ true
distinct_more n [] h e = refl
distinct_more n (m ∷ ms) h e =
    let p = and_parts (not (is_among m ms)) (is_distinct ms) h in
    let none : is_among m (ms ++ n ∷ []) ≡ false = among_more m n ms (not-true (is_among m ms) p.0) (not_last n m ms e) in
    and_from (not (is_among m (ms ++ n ∷ []))) (is_distinct (ms ++ n ∷ [])) (ap (λ b. not b) none) (distinct_more n ms p.1 (not_rest n m ms e))

pub names_none : AreNames [] 0
names_none = record { long = refl; lawful = refl; distinct = refl; nodes = λ k. refl; others = λ x l. refl }

pub names_more : (names : List Name) (n : ℕ) → AreNames names n → AreNames (names ++ spelled n ∷ []) (n + 1)
names_more names n h = record {
  long = omega (arith, length-append names (spelled n ∷ []), h.long);
  lawful = list_all-append is_name names (spelled n ∷ []) ∙ and_from (list_all is_name names) (is_name (spelled n) && true) h.lawful (and_from (is_name (spelled n)) true (spelled_lawful n) refl);
  distinct = distinct_more (spelled n) names h.distinct (h.others n (omega arith));
  nodes = λ k. among_more (node_name k) (spelled n) names (h.nodes k) (not_node k n);
  others = λ x l. among_more (spelled x) (spelled n) names (h.others x (omega arith)) (name_other (spelled x) (spelled n) (λ e. let same = spelled_once x n e in absurd (omega (arith, same, l))));
}
