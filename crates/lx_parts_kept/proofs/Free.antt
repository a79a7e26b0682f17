-- Numbers that are marked one after the other, none of them twice.
use Rattle.std.proofs.Common.{◌≡◌, ℕ, zero, suc, ◌<◌, ◌≤◌, drop, Bool, true, false, ◌&&◌, ◌||◌, not, List, [], ◌∷◌, length, replicate, get_or, set, nat_eq, nat_lt, refl, sym, ap, ◌∙◌, arith, eq-eqb, inl, inr}
use Rattle.std.specs.List.{list_all}
use Rattle.std.proofs.lemmas.Bool.{cases_eq, ltb-true, ne_eqb}
use Rattle.std.proofs.Math.Seq.{drop-cons}
use Rattle.std.proofs.lemmas.List.{drop_all, get_or-set_same, get_or-set_other, length-replicate, length-set}
use Rattle.lx_circuit.specs.Circuit.{is_among}
use Rattle.lx_kept.specs.Tables.{IsTable}
use Rattle.lx_description.specs.Keeping.{are_apart}
use Rattle.lx_parts_kept.specs.Parts.{are_places}
use Rattle.lx_parts_kept.specs.Tables.{can_mark}

-- each of these can be marked after those before it
abbrev pub are_free : List Bool → List ℕ → Bool
are_free marks [] = true
are_free marks (x ∷ xs) = can_mark marks x && are_free (set marks x true) xs

-- the marks of the numbers that were met
abbrev AreMarks : ℕ → List ℕ → List Bool → Type 0
AreMarks n met marks = IsTable false (λ k. is_among k met) n marks

abbrev are_new : List ℕ → List ℕ → Bool
are_new met [] = true
are_new met (x ∷ xs) = not (is_among x met) && are_new met xs

none_at : (n x : ℕ) → get_or (replicate n false) x false ≡ false
none_at zero x = refl
none_at (suc n) zero = refl
none_at (suc n) (suc x) = none_at n x

no_marks : (n : ℕ) → AreMarks n [] (replicate n false)
no_marks n = record { long = length-replicate n false; each = λ k l. none_at n k }

same_eq : (x y : ℕ) → nat_eq x y ≡ nat_eq y x
same_eq x y =
    elim (cases_eq x y) [
      | inl e ↦ eq-eqb x y e ∙ sym (eq-eqb y x (sym e))
      | inr e ↦ ne_eqb x y e ∙ sym (ne_eqb y x (λ q. e (sym q)))
    ]

marks_next : (n : ℕ) (met : List ℕ) (marks : List Bool) (x : ℕ) → x < n → AreMarks n met marks → AreMarks n (x ∷ met) (set marks x true)
marks_next n met marks x l h = record {
  long = length-set marks x true ∙ h.long;
  each = λ k m.
      elim (cases_eq x k) [
        | inl e ↦ rw (sym e, eq-eqb x x refl) (get_or-set_same marks x true false (omega (arith, h.long)))
        | inr e ↦ rw (ne_eqb x k e) (get_or-set_other marks x k true false (λ q. e (sym q)) ∙ h.each k m)
      ];
}

turned : (e m i w : Bool) → (not (e || m) && (not i && w)) ≡ (not (e || i) && (not m && w))
turned true m i w = refl
turned false true true w = refl
turned false true false w = refl
turned false false true w = refl
turned false false false w = refl

new_more : (x : ℕ) (met xs : List ℕ) → are_new (x ∷ met) xs ≡ (not (is_among x xs) && are_new met xs)
new_more x met [] = refl
new_more x met (y ∷ ys) =
    ap (λ (b : Bool). not (nat_eq x y || is_among y met) && b) (new_more x met ys)
    ∙ turned (nat_eq x y) (is_among y met) (is_among x ys) (are_new met ys)
    ∙ ap (λ (b : Bool). not (b || is_among x ys) && (not (is_among y met) && are_new met ys)) (same_eq x y)

moved : (m a i w p : Bool) → (not m && (a && ((not i && w) && p))) ≡ (a && ((not m && w) && (not i && p)))
moved true true i w p = refl
moved true false i w p = refl
moved false true true true p = refl
moved false true true false p = refl
moved false true false true p = refl
moved false true false false p = refl
moved false false i w p = refl

free_here : (n : ℕ) (met xs : List ℕ) (marks : List Bool) (x : ℕ) (b : Bool) → AreMarks n met marks → nat_lt x n ≡ b
    → (x < n → are_free (set marks x true) xs ≡ (list_all (λ y. nat_lt y n) xs && (are_new (x ∷ met) xs && are_apart xs)))
    → are_free marks (x ∷ xs) ≡ ((nat_lt x n && list_all (λ y. nat_lt y n) xs) && ((not (is_among x met) && are_new met xs) && (not (is_among x xs) && are_apart xs)))
free_here n met xs marks x false h e more =
    ap (λ (m : ℕ). (nat_lt x m && not (get_or marks x false)) && are_free (set marks x true) xs) h.long
    ∙ ap (λ (b : Bool). (b && not (get_or marks x false)) && are_free (set marks x true) xs) e
    ∙ sym (ap (λ (b : Bool). (b && list_all (λ y. nat_lt y n) xs) && ((not (is_among x met) && are_new met xs) && (not (is_among x xs) && are_apart xs))) e)
free_here n met xs marks x true h e more =
    let l = ltb-true x n e in
    ap (λ (m : ℕ). (nat_lt x m && not (get_or marks x false)) && are_free (set marks x true) xs) h.long
    ∙ ap (λ (b : Bool). (b && not (get_or marks x false)) && are_free (set marks x true) xs) e
    ∙ ap (λ (b : Bool). not b && are_free (set marks x true) xs) (h.each x l)
    ∙ ap (λ (b : Bool). not (is_among x met) && b) (more l)
    ∙ ap (λ (b : Bool). not (is_among x met) && (list_all (λ y. nat_lt y n) xs && (b && are_apart xs))) (new_more x met xs)
    ∙ moved (is_among x met) (list_all (λ y. nat_lt y n) xs) (is_among x xs) (are_new met xs) (are_apart xs)
    ∙ sym (ap (λ (b : Bool). (b && list_all (λ y. nat_lt y n) xs) && ((not (is_among x met) && are_new met xs) && (not (is_among x xs) && are_apart xs))) e)

free_is : (n : ℕ) (met xs : List ℕ) (marks : List Bool) → AreMarks n met marks → are_free marks xs ≡ (list_all (λ x. nat_lt x n) xs && (are_new met xs && are_apart xs))
free_is n met [] marks h = refl
free_is n met (x ∷ xs) marks h = free_here n met xs marks x (nat_lt x n) h refl (λ l. free_is n (x ∷ met) xs (set marks x true) (marks_next n met marks x l h))

all_new : (xs : List ℕ) → are_new [] xs ≡ true
all_new [] = refl
all_new (x ∷ xs) = all_new xs

are_places_is : (n : ℕ) (xs : List ℕ) → are_free (replicate n false) xs ≡ are_places n xs
are_places_is n xs = free_is n [] xs (replicate n false) (no_marks n) ∙ ap (λ (b : Bool). list_all (λ x. nat_lt x n) xs && (b && are_apart xs)) (all_new xs)

-- where nothing is marked before
free_told : (marks : List Bool) (xs : List ℕ) → marks ≡ replicate (length marks) false → are_free marks xs ≡ are_places (length marks) xs
free_told marks xs e = ap (λ (m : List Bool). are_free m xs) e ∙ are_places_is (length marks) xs

pub free_done : (first marks : List Bool) (xs : List ℕ) (i : ℕ) → first ≡ replicate (length first) false → length xs ≤ i → are_free marks (drop i xs) ≡ are_free first xs → true ≡ are_places (length first) xs
free_done first marks xs i e l h = sym (ap (λ (ys : List ℕ). are_free marks ys) (drop_all i xs l)) ∙ h ∙ free_told first xs e

-- a number that can't be marked
pub free_stopped : (first marks : List Bool) (xs : List ℕ) (i : ℕ) → first ≡ replicate (length first) false → i < length xs → false ≡ can_mark marks (get_or xs i 0) → are_free marks (drop i xs) ≡ are_free first xs → false ≡ are_places (length first) xs
free_stopped first marks xs i e l stopped h =
    ap (λ (b : Bool). b && are_free (set marks (get_or xs i 0) true) (drop (suc i) xs)) stopped
    ∙ sym (ap (λ (ys : List ℕ). are_free marks ys) (drop-cons xs i 0 l))
    ∙ h
    ∙ free_told first xs e
