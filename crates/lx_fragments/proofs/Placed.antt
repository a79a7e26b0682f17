-- Where modules stand, noted one after another.
use Rattle.std.proofs.Common.{◌≡◌, refl, sym, ap, subst, ◌∙◌, Bool, true, false, ℕ, zero, suc, ◌+◌, ◌<◌, ◌≤◌, nat_eq, nat_lt, List, [], ◌∷◌, ◌++◌, length, Option, Some, None, if◌then◌else◌, slice_get, slice_set, drop, get_or, arith}
use Rattle.std.specs.Prelude.{slice_index_or}
use Rattle.std.proofs.Math.Seq.{drop-cons}
use Rattle.std.proofs.lemmas.Bool.{eqb-false, eqb-true, ltb-false, ltb-true}
use Rattle.std.proofs.lemmas.List.{length-replicate, replicate_more}
use Rattle.lx_description.specs.declared.fsms.FsmPlace.{FsmPlace}
use Rattle.lx_state.specs.declared.machine.Machine.{Machine}
use Rattle.lx_state.specs.declared.machine.Module.{Module}
use Rattle.lx_state.specs.Frames.{or_else}
use Rattle.lx_fragments.specs.Fragments.{under}
use Rattle.lx_fragments.specs.Places.{ArePlaces, behind, first_place, is_nowhere, noted, nowhere, place_among}

abbrev Place : Type 0
Place = Option FsmPlace

abbrev at : List Place → ℕ → Place
at places k = slice_index_or places k None

-- ---- the table

pub one_more : (n : ℕ) → nowhere n ++ None ∷ [] ≡ nowhere (n + 1)
one_more n = replicate_more n None

nowhere_at : (n k : ℕ) → at (nowhere n) k ≡ None
nowhere_at zero k = refl
nowhere_at (suc n) zero = refl
nowhere_at (suc n) (suc k) = nowhere_at n k

behind_head : (b : Bool) (x : Place) (xs ys : List Place) (k : ℕ) → at (if b then x ∷ xs else x ∷ ys) (suc k) ≡ at (if b then xs else ys) k
behind_head true x xs ys k = refl
behind_head false x xs ys k = refl

at_head : (b : Bool) (x : Place) (xs ys : List Place) → at (if b then x ∷ xs else x ∷ ys) zero ≡ x
at_head true x xs ys = refl
at_head false x xs ys = refl

noted_here : (places : List Place) (k : ℕ) (p : FsmPlace) → k < length places → at (noted places k p) k ≡ or_else (at places k) (Some p)
noted_here [] k p l = absurd (omega (arith, l))
noted_here (None ∷ xs) zero p l = refl
noted_here (Some q ∷ xs) zero p l = refl
noted_here (x ∷ xs) (suc k) p l = behind_head (is_nowhere (slice_get xs k)) x (slice_set xs k (Some p)) xs k ∙ noted_here xs k p (omega (arith, l))

noted_elsewhere : (places : List Place) (j k : ℕ) (p : FsmPlace) → (j ≡ k → ⊥) → at (noted places j p) k ≡ at places k
noted_elsewhere [] j k p e = refl
noted_elsewhere (x ∷ xs) zero zero p e = absurd (e refl)
noted_elsewhere (None ∷ xs) zero (suc k) p e = refl
noted_elsewhere (Some q ∷ xs) zero (suc k) p e = refl
noted_elsewhere (x ∷ xs) (suc j) zero p e = at_head (is_nowhere (slice_get xs j)) x (slice_set xs j (Some p)) xs
noted_elsewhere (x ∷ xs) (suc j) (suc k) p e = behind_head (is_nowhere (slice_get xs j)) x (slice_set xs j (Some p)) xs k ∙ noted_elsewhere xs j k p (λ h. e (ap suc h))

long_either : (b : Bool) (xs ys : List Place) (n : ℕ) → length xs ≡ n → length ys ≡ n → length (if b then xs else ys) ≡ n
long_either true xs ys n e f = e
long_either false xs ys n e f = f

set_long : (places : List Place) (k : ℕ) (q : Place) → length (slice_set places k q) ≡ length places
set_long [] k q = refl
set_long (x ∷ xs) zero q = refl
set_long (x ∷ xs) (suc k) q = ap suc (set_long xs k q)

noted_long : (places : List Place) (k : ℕ) (p : FsmPlace) → length (noted places k p) ≡ length places
noted_long places k p = long_either (is_nowhere (slice_get places k)) (slice_set places k (Some p)) places (length places) (set_long places k (Some p)) refl

-- ---- modules one after another

-- some modules were passed; what stands before the others, and what is noted
pub record NotedSo (m : Machine) (top : ℕ) (places : List Place) (before : FsmPlace) (rest : List ℕ) : Type 0 where
  pub long : length places ≡ length m.modules
  pub each : (k : ℕ) → k < length m.modules → or_else (at places k) (place_among m.modules k before rest) ≡ place_among m.modules k (first_place m) (under m.modules 65 top)

pub noted_start : (m : Machine) (top : ℕ) (places : List Place) (before : FsmPlace) (rest : List ℕ) → places ≡ nowhere (length m.modules) → before ≡ first_place m → rest ≡ under m.modules 65 top → NotedSo m top places before rest
noted_start m top places before rest e f g = rw (e, f, g) (record {
  long = length-replicate (length m.modules) None;
  each = λ k l. ap (λ o. or_else o (place_among m.modules k (first_place m) (under m.modules 65 top))) (nowhere_at (length m.modules) k);
})

either_way : (o x : Place) (p : FsmPlace) → or_else (or_else o (Some p)) x ≡ or_else o (Some p)
either_way None x p = refl
either_way (Some q) x p = refl

same_else : (o p : Place) (x : Place) → o ≡ p → or_else o x ≡ or_else p x
same_else o p x e = ap (λ q. or_else q x) e

next_among : (modules : List Module) (k j : ℕ) (before : FsmPlace) (js : List ℕ) → place_among modules k before (j ∷ js) ≡ (if nat_eq j k then Some before else place_among modules k (behind before (slice_get modules j)) js)
unfolding place_among
next_among modules k j before js = refl

each_next : (modules : List Module) (places : List Place) (before : FsmPlace) (j k : ℕ) (js : List ℕ) (b : Bool) → nat_eq j k ≡ b → k < length places
    → or_else (at (noted places j before) k) (place_among modules k (behind before (slice_get modules j)) js) ≡ or_else (at places k) (if b then Some before else place_among modules k (behind before (slice_get modules j)) js)
each_next modules places before j k js true e l =
    let same : j ≡ k = eqb-true j k e in
    rw same (same_else _ _ _ (noted_here places k before l) ∙ either_way (at places k) _ before)
each_next modules places before j k js false e l = same_else _ _ _ (noted_elsewhere places j k before (eqb-false j k e))

noted_more : (m : Machine) (top : ℕ) (places : List Place) (before : FsmPlace) (j : ℕ) (js : List ℕ) → NotedSo m top places before (j ∷ js) → NotedSo m top (noted places j before) (behind before (slice_get m.modules j)) js
noted_more m top places before j js so = record {
  long = noted_long places j before ∙ so.long;
  each = λ k l. each_next m.modules places before j k js (nat_eq j k) refl (omega (arith, l, so.long)) ∙ ap (λ o. or_else (at places k) o) (sym (next_among m.modules k j before js)) ∙ so.each k l;
}

else_none : (o : Place) → or_else o None ≡ o
else_none None = refl
else_none (Some q) = refl

none_among : (modules : List Module) (k : ℕ) (before : FsmPlace) → place_among modules k before [] ≡ None
unfolding place_among
none_among modules k before = refl

past : (places : List Place) (k : ℕ) → length places ≤ k → at places k ≡ None
past [] k l = refl
past (x ∷ xs) zero l = absurd (omega (arith, l))
past (x ∷ xs) (suc k) l = past xs k (omega (arith, l))

end_at : (m : Machine) (top : ℕ) (places : List Place) (before : FsmPlace) (k : ℕ) (b : Bool) → nat_lt k (length m.modules) ≡ b → NotedSo m top places before []
    → at places k ≡ (if b then place_among m.modules k (first_place m) (under m.modules 65 top) else None)
end_at m top places before k true e so =
    sym (else_none (at places k)) ∙ ap (λ o. or_else (at places k) o) (sym (none_among m.modules k before)) ∙ so.each k (ltb-true k (length m.modules) e)
end_at m top places before k false e so =
    let far = ltb-false k (length m.modules) e in
    let long = so.long in
    past places k (omega (arith, far, long))

noted_end : (m : Machine) (top : ℕ) (places : List Place) (before : FsmPlace) (rest : List ℕ) → rest ≡ [] → NotedSo m top places before rest → ArePlaces m top places
noted_end m top places before rest e so k =
    end_at m top places before k (nat_lt k (length m.modules)) refl (subst (λ (r : List ℕ). NotedSo m top places before r) e so)

-- ---- by index

pub noted_next : (m : Machine) (top : ℕ) (places : List Place) (before : FsmPlace) (js : List ℕ) (i d : ℕ) → i < length js → NotedSo m top places before (drop i js)
    → NotedSo m top (noted places (get_or js i d) before) (behind before (slice_get m.modules (get_or js i d))) (drop (i + 1) js)
noted_next m top places before js i d l so =
    let next : suc i ≡ i + 1 = omega arith in
    let cons : drop i js ≡ get_or js i d ∷ drop (i + 1) js = drop-cons js i d l ∙ ap (λ n. get_or js i d ∷ drop n js) next in
    noted_more m top places before (get_or js i d) (drop (i + 1) js) (subst (λ (r : List ℕ). NotedSo m top places before r) cons so)

drop_over : (js : List ℕ) (i : ℕ) → length js ≤ i → drop i js ≡ []
drop_over [] zero l = refl
drop_over [] (suc i) l = refl
drop_over (j ∷ js) zero l = absurd (omega (arith, l))
drop_over (j ∷ js) (suc i) l = drop_over js i (omega (arith, l))

pub noted_over : (m : Machine) (top : ℕ) (places : List Place) (before : FsmPlace) (js : List ℕ) (i : ℕ) → length js ≤ i → NotedSo m top places before (drop i js) → ArePlaces m top places
noted_over m top places before js i l so = noted_end m top places before (drop i js) (drop_over js i l) so
