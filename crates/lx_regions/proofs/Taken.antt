-- What is free, and what the chosen regions take.
use Rattle.std.proofs.Common.{◌≡◌, ℕ, ◌+◌, ◌*◌, ◌/◌, ◌≤◌, Bool, true, false, not, cond, ◌&&◌, ◌||◌, inl, inr, List, [], ◌∷◌, Some, refl, arith, ap, sym, subst, ◌∙◌, add-zero}
use Rattle.std.specs.Int.{IsPowerOfTwo}
use Rattle.std.specs.List.{AllByRecursion}
use Rattle.std.proofs.Math.Nat.{div-eq_of_eq-mul_left}
use Rattle.std.proofs.Math.Bool.{and_assoc}
use Rattle.std.proofs.lemmas.Bool.{and_from, and_parts, cases_Bool, false≢true}
use Rattle.lx_regions.specs.declared.spots.Place.{Place}
use Rattle.lx_regions.specs.declared.spots.Place.TheVariants.{Fixed, Chosen, Open}
use Rattle.lx_regions.specs.declared.spots.Spot.{Spot}
use Rattle.lx_regions.specs.Space.{is_inside, is_apart, is_left, leaves, every, origin_of, Suits, IsSound, AreSized, AreApart, AllApart}
use Rattle.lx_regions.specs.Free.{count, same}
use Rattle.lx_regions.proofs.Tests.{inside_parts, apart_parts, apart_before, apart_behind}
use Rattle.lx_regions.proofs.Counts.{count_same}
use Rattle.lx_regions.proofs.Slots.{multiple, power_pos, aligned_low, region_out, windows_apart, taken}

-- no size counts
abbrev pub never : ℕ → Bool
never m = false

pub same_true : (w c : Bool) → same w c ≡ true → c ≡ w
same_true true c e = e
same_true false true e = absurd (false≢true e)
same_true false false e = refl

pub same_false : (w c : Bool) → same w c ≡ false → c ≡ not w
same_false true c e = e
same_false false true e = refl
same_false false false e = absurd (false≢true (sym e))

pub top : (c : Bool) (o m : ℕ) → is_inside c o m ≡ true → o + m ≤ 4294967296
top true o m h = let x = inside_parts true o m h in omega (arith, x.1)
top false o m h = let x = inside_parts false o m h in omega (arith, x.1)

-- a chosen region: the slots inside it leave where it is of the window and its size counts
chosen_taken : (k n : ℕ) (t : ℕ → Bool) (w : Bool) (o m : ℕ) (c : Bool) (p r : ℕ → Bool) →
    IsPowerOfTwo n → IsPowerOfTwo m → (t m ≡ true → n ≤ m) → ((a : ℕ) → a * n ≤ 4294967296 → a ≤ k) →
    ((i : ℕ) → p i ≡ true → is_inside w (i * n) n ≡ true) → Suits c m o →
    (t m ≡ true → c ≡ w → (i : ℕ) → o ≤ i * n → i * n + n ≤ o + m → (p i ≡ true) × (r i ≡ true)) →
    count k (λ i. p i && ((not (t m) || is_apart (i * n) n o m) && r i)) + cond (t m && same w c) (m / n) 0
    ≡ count k (λ i. p i && r i)
chosen_taken k n t w o m c p r pn pm large fit inside suits pass =
    elim (cases_Bool (t m)) [
      | inr out ↦ rw out (add-zero _)
      | inl counts ↦ elim (cases_Bool (same w c)) [
        | inr other ↦ rw (counts, other) (add-zero _ ∙ count_same k _ _ (λ i l. apart_there i (same_false w c other)))
        | inl own ↦
            let whole = multiple n m pn pm (large counts) in
            let pos = power_pos n pn in
            let posm = power_pos m pm in
            let here : o ≡ m * (o / m) = omega (arith, suits.aligned) in
            let low = aligned_low n whole.0 m (o / m) o whole.1 here in
            let share : m / n ≡ whole.0 = div-eq_of_eq-mul_left pos whole.1 in
            let bound : o + m ≤ 4294967296 = top c o m suits.inside in
            rw (counts, own, share) (region_out k n o m (o / m * whole.0) whole.0 p r pos low whole.1
            (fit (o / m * whole.0 + whole.0) (omega (arith, low, whole.1, bound)))
            (pass counts (same_true w c own)))
      ]
    ]
  where
    apart_there : (i : ℕ) → c ≡ not w → (p i && (is_apart (i * n) n o m && r i)) ≡ (p i && r i)
    apart_there i e = elim (cases_Bool (p i)) [
      | inr none ↦ rw none refl
      | inl some ↦
          let there = windows_apart w (i * n) n o m (inside i some) (subst (λ z. is_inside z o m ≡ true) e suits.inside) in
          rw there refl
    ]

-- one region more
one_taken : (k n : ℕ) (t : ℕ → Bool) (w : Bool) (place : Place) (m : ℕ) (c : Bool) (p r : ℕ → Bool) →
    IsPowerOfTwo n → IsPowerOfTwo m → (t m ≡ true → n ≤ m) → ((a : ℕ) → a * n ≤ 4294967296 → a ≤ k) →
    ((i : ℕ) → p i ≡ true → is_inside w (i * n) n ≡ true) →
    ((o : ℕ) → origin_of place ≡ Some o → Suits c m o) →
    ((o : ℕ) → place ≡ Chosen o → t m ≡ true → c ≡ w → (i : ℕ) → o ≤ i * n → i * n + n ≤ o + m → (p i ≡ true) × (r i ≡ true)) →
    count k (λ i. p i && (leaves t (i * n) n place m && r i)) + taken t w n place m c
    ≡ count k (λ i. p i && (leaves never (i * n) n place m && r i))
one_taken k n t w (Fixed o) m c p r pn pm large fit inside suits pass = add-zero _
one_taken k n t w Open m c p r pn pm large fit inside suits pass = add-zero _
one_taken k n t w (Chosen o) m c p r pn pm large fit inside suits pass =
    chosen_taken k n t w o m c p r pn pm large fit inside (suits o refl) (pass o refl)

-- a slot inside the bytes that leave a region leaves it too
slot_leaves : (t : ℕ → Bool) (o m s n : ℕ) (place : Place) (size : ℕ) →
    leaves every o m place size ≡ true → o ≤ s → s + n ≤ o + m → leaves t s n place size ≡ true
slot_leaves t o m s n (Fixed q) size h a b =
    elim (apart_parts o m q size h) [ inl x ↦ apart_before s n q size (omega arith) | inr x ↦ apart_behind s n q size (omega arith) ]
slot_leaves t o m s n (Chosen q) size h a b =
    let apart : is_apart s n q size ≡ true =
    elim (apart_parts o m q size h) [ inl x ↦ apart_before s n q size (omega arith) | inr x ↦ apart_behind s n q size (omega arith) ] in
    elim (cases_Bool (t size)) [ inl e ↦ rw (e, apart) refl | inr e ↦ rw e refl ]
slot_leaves t o m s n Open size h a b = refl

slot_left : (t : ℕ → Bool) (o s n : ℕ) (y : Spot) (ys : List Spot) → origin_of y.place ≡ Some o →
    AllByRecursion (AreApart y) ys → o ≤ s → s + n ≤ o + y.size → is_left t ys s n ≡ true
unfolding is_left
slot_left t o s n y [] e h a b = refl
slot_left t o s n y (x ∷ xs) e (h, hs) a b =
    and_from _ _ (slot_leaves t o y.size s n x.place x.size (h o e) a b) (slot_left t o s n y xs e hs a b)

-- the same from the region's side
leaves_back : (t : ℕ → Bool) (place : Place) (m o size s n : ℕ) →
    ((q : ℕ) → origin_of place ≡ Some q → is_apart q m o size ≡ true) → o ≤ s → s + n ≤ o + size → leaves t s n place m ≡ true
leaves_back t (Fixed q) m o size s n h a b =
    elim (apart_parts q m o size (h q refl)) [ inl x ↦ apart_behind s n q m (omega arith) | inr x ↦ apart_before s n q m (omega arith) ]
leaves_back t (Chosen q) m o size s n h a b =
    let apart : is_apart s n q m ≡ true =
    elim (apart_parts q m o size (h q refl)) [ inl x ↦ apart_behind s n q m (omega arith) | inr x ↦ apart_before s n q m (omega arith) ] in
    elim (cases_Bool (t m)) [ inl e ↦ rw (e, apart) refl | inr e ↦ rw e refl ]
leaves_back t Open m o size s n h a b = refl

-- the slots inside each chosen region of the window that counts pass the test
abbrev pub Passes : (ℕ → Bool) → Bool → ℕ → (ℕ → Bool) → List Spot → Type 0
Passes t w n p ys =
    AllByRecursion (λ y. (o : ℕ) → y.place ≡ Chosen o → t y.size ≡ true → y.cached ≡ w → (i : ℕ) → o ≤ i * n → i * n + n ≤ o + y.size → p i ≡ true) ys

passes_more : (t : ℕ → Bool) (w : Bool) (n : ℕ) (p : ℕ → Bool) (y : Spot) (ys : List Spot) →
    AllByRecursion (AreApart y) ys → Passes t w n p ys → Passes t w n (λ i. p i && leaves t (i * n) n y.place y.size) ys
passes_more t w n p y [] h passes = tt
passes_more t w n p y (x ∷ xs) (h, hs) (here, rest) = (
  (λ o e counts own i a b. and_from _ _ (here o e counts own i a b)
      (leaves_back t y.place y.size o x.size (i * n) n (λ q f. subst (λ z. leaves every q y.size z x.size ≡ true) e (h q f)) a b)),
  passes_more t w n p y xs hs rest,
)

-- slots that the chosen regions take, of those that are of the window and count
unfoldable pub slots : (ℕ → Bool) → Bool → ℕ → List Spot → ℕ
slots t w n [] = 0
slots t w n (y ∷ ys) = taken t w n y.place y.size y.cached + slots t w n ys

pub taken_all : (k n : ℕ) (t : ℕ → Bool) (w : Bool) (p : ℕ → Bool) (ys : List Spot) →
    IsPowerOfTwo n → ((a : ℕ) → a * n ≤ 4294967296 → a ≤ k) → ((m : ℕ) → t m ≡ true → n ≤ m) →
    ((i : ℕ) → p i ≡ true → is_inside w (i * n) n ≡ true) →
    AreSized ys → AllByRecursion IsSound ys → AllApart ys → Passes t w n p ys →
    count k (λ i. p i && is_left t ys (i * n) n) + slots t w n ys ≡ count k (λ i. p i && is_left never ys (i * n) n)
unfolding is_left slots
taken_all k n t w p [] pn fit large inside sized sound apart passes = add-zero _
taken_all k n t w p (y ∷ ys) pn fit large inside (size, sized) (suits, sound) (here, apart) (pass, passes) =
    let own = one_taken k n t w y.place y.size y.cached p (λ i. is_left never ys (i * n) n) pn size.0 (large y.size) fit inside suits
    (λ o e counts of i a b. (pass o e counts of i a b, slot_left never o (i * n) n y ys (ap origin_of e) here a b)) in
    let rest = taken_all k n t w (λ i. p i && leaves t (i * n) n y.place y.size) ys pn fit large
    (λ i e. inside i (and_parts (p i) _ e).0) sized sound apart (passes_more t w n p y ys here passes) in
    let left = count_same k
    (λ i. (p i && leaves t (i * n) n y.place y.size) && is_left t ys (i * n) n)
    (λ i. p i && (leaves t (i * n) n y.place y.size && is_left t ys (i * n) n)) (λ i l. and_assoc (p i) (leaves t (i * n) n y.place y.size) (is_left t ys (i * n) n)) in
    let right = count_same k
    (λ i. (p i && leaves t (i * n) n y.place y.size) && is_left never ys (i * n) n)
    (λ i. p i && (leaves t (i * n) n y.place y.size && is_left never ys (i * n) n)) (λ i l. and_assoc (p i) (leaves t (i * n) n y.place y.size) (is_left never ys (i * n) n)) in
    omega (arith, own, rest, left, right)
