-- The law of the free slots: they are as many for every legal choice, and enough where a placement exists.
use Rattle.std.proofs.Common.{◌≡◌, ℕ, zero, ◌+◌, ◌*◌, ◌/◌, ◌<◌, ◌≤◌, Bool, true, false, cond, ◌&&◌, leb, ltb, eqb, inl, inr, List, [], ◌∷◌, refl, arith, ap, sym, subst, ◌∙◌, count_by}
use Rattle.std.specs.Int.{IsPowerOfTwo}
use Rattle.std.specs.List.{AllByRecursion, AllZip}
use Rattle.std.proofs.lemmas.Nat.{le-div}
use Rattle.std.proofs.lemmas.List.Sums.{sum_by-cons}
use Rattle.std.proofs.lemmas.Bool.{and_from, and_left, and_right, cases_Bool, cases_lt, cases_eq, false≢true, lt-ltb, le-ltb, le-leb, lt-leb, eq-eqb, ne_eqb, ltb-true, leb-true}
use Rattle.std.proofs.Math.Nat.{div-eq_of_eq-mul_left}
use Rattle.lx_regions.specs.declared.spots.Place.{Place}
use Rattle.lx_regions.specs.declared.spots.Place.TheVariants.{Fixed, Chosen, Open}
use Rattle.lx_regions.specs.declared.spots.Spot.{Spot}
use Rattle.lx_regions.specs.Space.{is_inside, is_left, leaves, origin_of, is_open, is_chosen, IsSound, AreSized, IsLegal}
use Rattle.lx_regions.specs.Free.{free_by, free, same, is_larger, is_wanted, wanted, Gets, Grew, IsChoice, IsWish, AreWishes, FreeIsOne, EnoughIsFree}
use Rattle.lx_regions.proofs.Tests.{inside_parts, inside_from}
use Rattle.lx_regions.proofs.Counts.{count_same}
use Rattle.lx_regions.proofs.Slots.{power_pos, taken}
use Rattle.lx_regions.proofs.Taken.{taken_all, slots, never, Passes}

abbrev pub above : ℕ → ℕ → Bool
above n m = ltb n m

abbrev pub from : ℕ → ℕ → Bool
from n m = leb n m

passes_inside : (t : ℕ → Bool) (w : Bool) (n : ℕ) (ys : List Spot) → AllByRecursion IsSound ys → Passes t w n (λ i. is_inside w (i * n) n) ys
passes_inside t w n [] sound = tt
passes_inside t w n (y ∷ ys) (own, sound) = (
  (λ o e counts of i a b.
      let whole = inside_parts w o y.size (subst (λ z. is_inside z o y.size ≡ true) of (own o (ap origin_of e)).inside) in
      inside_from w (i * n) n (omega (arith, whole.0)) (omega (arith, whole.1))),
  passes_inside t w n ys sound,
)

pub free_taken : (t : ℕ → Bool) (w : Bool) (n : ℕ) (ys : List Spot) → IsPowerOfTwo n → ((m : ℕ) → t m ≡ true → n ≤ m) →
    AreSized ys → IsLegal ys → free_by t w n ys + slots t w n ys ≡ free_by never w n ys
unfolding free_by
free_taken t w n ys power large sized legal =
    taken_all (4294967296 / n) n t w (λ i. is_inside w (i * n) n) ys power
    (λ a h. le-div a 4294967296 n (power_pos n power) h) large (λ i e. e) sized legal.sound legal.apart
    (passes_inside t w n ys legal.sound)

-- a region that has got a place has a rounded size
pub sized_grown : (must : Spot → Bool) (xs ys : List Spot) → AreWishes xs → AllZip (Gets must) xs ys → AreSized ys
sized_grown must [] [] wishes each = tt
sized_grown must [] (y ∷ ys) wishes each = absurd each
sized_grown must (x ∷ xs) [] wishes each = absurd each
sized_grown must (x ∷ xs) (y ∷ ys) (wish, wishes) (got, each) = (
  elim got [
    | inl put ↦ subst (λ z. IsPowerOfTwo z.size × (z.size ≤ 4294967296)) (sym put.is) (wish.0, wish.1)
    | inr kept ↦ subst (λ z. IsPowerOfTwo z.size × (z.size ≤ 4294967296)) (sym kept.0) (wish.0, wish.1)
  ],
  sized_grown must xs ys wishes each,
)

pub open_is : (p : Place) → is_open p ≡ true → p ≡ Open
open_is (Fixed o) e = absurd (false≢true e)
open_is (Chosen o) e = absurd (false≢true e)
open_is Open e = refl

-- fixed regions leave the same slots before and after
left_grown : (must : Spot → Bool) (xs ys : List Spot) (s n : ℕ) → AllZip (Gets must) xs ys → is_left never ys s n ≡ is_left never xs s n
unfolding is_left
left_grown must [] [] s n each = refl
left_grown must [] (y ∷ ys) s n each = absurd each
left_grown must (x ∷ xs) [] s n each = absurd each
left_grown must (x ∷ xs) (y ∷ ys) s n (got, each) =
    let one : leaves never s n y.place y.size ≡ leaves never s n x.place x.size =
    elim got [
      | inl put ↦ ap (λ z. leaves never s n z.place z.size) put.is ∙ sym (ap (λ z. leaves never s n z x.size) (open_is x.place put.unplaced))
      | inr kept ↦ ap (λ z. leaves never s n z.place z.size) kept.0
    ] in
    let rest = left_grown must xs ys s n each in
    cc

never_grown : (must : Spot → Bool) (xs ys : List Spot) (w : Bool) (n : ℕ) → AllZip (Gets must) xs ys → free_by never w n ys ≡ free_by never w n xs
unfolding free_by
never_grown must xs ys w n each =
    count_same (4294967296 / n) (λ i. is_inside w (i * n) n && is_left never ys (i * n) n) (λ i. is_inside w (i * n) n && is_left never xs (i * n) n)
    (λ i l. ap (λ z. is_inside w (i * n) n && z) (left_grown must xs ys (i * n) n each))

-- slots that a wish asks for
abbrev asked : (ℕ → Bool) → Bool → ℕ → Place → ℕ → Bool → ℕ
asked t w n (Fixed o) m c = 0
asked t w n (Chosen o) m c = 0
asked t w n Open m c = cond (t m && same w c) (m / n) 0

unfoldable demand : (ℕ → Bool) → Bool → ℕ → List Spot → ℕ
demand t w n [] = 0
demand t w n (x ∷ xs) = asked t w n x.place x.size x.cached + demand t w n xs

kept_asks : (t : ℕ → Bool) (w : Bool) (n : ℕ) (p : Place) (m : ℕ) (c : Bool) → is_chosen p ≡ false →
    (is_open p ≡ true → (t m && same w c) ≡ false) → taken t w n p m c ≡ asked t w n p m c
kept_asks t w n (Fixed o) m c plain out = refl
kept_asks t w n (Chosen o) m c plain out = absurd (false≢true (sym plain))
kept_asks t w n Open m c plain out = rw (out refl) refl

slots_grown : (t : ℕ → Bool) (must : Spot → Bool) (w : Bool) (n : ℕ) (xs ys : List Spot) → AreWishes xs → AllZip (Gets must) xs ys →
    ((x : Spot) → must x ≡ false → is_open x.place ≡ true → (t x.size && same w x.cached) ≡ false) →
    slots t w n ys ≡ demand t w n xs
unfolding slots demand
slots_grown t must w n [] [] wishes each out = refl
slots_grown t must w n [] (y ∷ ys) wishes each out = absurd each
slots_grown t must w n (x ∷ xs) [] wishes each out = absurd each
slots_grown t must w n (x ∷ xs) (y ∷ ys) (wish, wishes) (got, each) out =
    let one : taken t w n y.place y.size y.cached ≡ asked t w n x.place x.size x.cached =
    elim got [
      | inl put ↦ ap (λ z. taken t w n z.place z.size z.cached) put.is ∙ sym (ap (λ z. asked t w n z x.size x.cached) (open_is x.place put.unplaced))
      | inr kept ↦ ap (λ z. taken t w n z.place z.size z.cached) kept.0 ∙ kept_asks t w n x.place x.size x.cached wish.2 (out x kept.1)
    ] in
    let rest = slots_grown t must w n xs ys wishes each out in
    cc

not_larger : (w : Bool) (n : ℕ) (x : Spot) → is_larger w n x ≡ false → is_open x.place ≡ true → (above n x.size && same w x.cached) ≡ false
not_larger w n x out waits = elim (cases_Bool (above n x.size)) [
  | inr small ↦ and_left _ _ small
  | inl large ↦ elim (cases_Bool (same w x.cached)) [
    | inr other ↦ and_right _ _ other
    | inl own ↦ absurd (false≢true (sym out ∙ and_from _ _ waits (and_from _ _ own large)))
  ]
]

choice_free : (w : Bool) (n : ℕ) (xs ys : List Spot) → AreWishes xs → IsPowerOfTwo n → IsChoice w n xs ys →
    free w n ys + demand (above n) w n xs ≡ free_by never w n xs
choice_free w n xs ys wishes power choice =
    let all = free_taken (above n) w n ys power (λ m e. let l = ltb-true n m e in omega arith) (sized_grown _ xs ys wishes choice.each) choice.legal in
    let same_slots = slots_grown (above n) (is_larger w n) w n xs ys wishes choice.each (not_larger w n) in
    let same_never = never_grown (is_larger w n) xs ys w n choice.each in
    omega (arith, all, same_slots, same_never)

pub free_same : FreeIsOne
free_same xs ys zs w n wishes power a b =
    let x = choice_free w n xs ys wishes power a in
    let y = choice_free w n xs zs wishes power b in
    omega (arith, x, y)

pub count_cons : (p : Spot → Bool) (x : Spot) (xs : List Spot) → count_by p (x ∷ xs) ≡ cond (p x) 1 0 + count_by p xs
count_cons p x xs = sum_by-cons (λ z. cond (p z) 1 0) x xs

-- a region of the window and size that has a chosen place
abbrev pub is_given : Bool → ℕ → Spot → Bool
is_given w n y = is_chosen y.place && (same w y.cached && eqb y.size n)

one_step : (w : Bool) (n : ℕ) (p : Place) (m : ℕ) (c : Bool) → zero < n →
    taken (from n) w n p m c ≡ taken (above n) w n p m c + cond (is_chosen p && (same w c && eqb m n)) 1 0
one_step w n (Fixed o) m c pos = refl
one_step w n Open m c pos = refl
one_step w n (Chosen o) m c pos = elim (cases_Bool (same w c)) [
  | inr other ↦ rw (other, and_right (from n m) false refl, and_right (above n m) false refl) refl
  | inl own ↦ elim (cases_lt n m) [
    | inl less ↦ rw (own, lt-ltb n m less, le-leb n m (omega arith), ne_eqb m n (λ e. absurd (omega arith))) (omega arith)
    | inr more ↦ elim (cases_eq m n) [
      | inl equal ↦ rw (own, le-ltb n m more, le-leb n m (omega arith), eq-eqb m n equal) (div-eq_of_eq-mul_left pos (omega arith))
      | inr unequal ↦ rw (own, le-ltb n m more, lt-leb n m (omega arith), ne_eqb m n unequal) refl
    ]
  ]
]

slots_step : (w : Bool) (n : ℕ) (ys : List Spot) → zero < n → slots (from n) w n ys ≡ slots (above n) w n ys + count_by (is_given w n) ys
unfolding slots
slots_step w n [] pos = refl
slots_step w n (y ∷ ys) pos =
    let one = one_step w n y.place y.size y.cached pos in
    let rest = slots_step w n ys pos in
    omega (arith, one, rest, count_cons (is_given w n) y ys)

-- what is free for a size is what stays free with the regions of that size, and what these take
pub free_step : (w : Bool) (n : ℕ) (ys : List Spot) → IsPowerOfTwo n → AreSized ys → IsLegal ys →
    free w n ys ≡ free_by (from n) w n ys + count_by (is_given w n) ys
free_step w n ys power sized legal =
    let larger = free_taken (above n) w n ys power (λ m e. let l = ltb-true n m e in omega arith) sized legal in
    let large = free_taken (from n) w n ys power (λ m e. leb-true n m e) sized legal in
    let step = slots_step w n ys (power_pos n power) in
    omega (arith, larger, large, step)

one_given : (must : Spot → Bool) (w : Bool) (n : ℕ) (x y : Spot) → IsWish x → Gets must x y →
    cond (is_wanted w n x) 1 0 ≡ cond (is_wanted w n y) 1 0 + cond (is_given w n y) 1 0
one_given must w n x y wish got = elim got [
  | inl put ↦ rw (put.is, put.unplaced) (omega arith)
  | inr kept ↦ rw (kept.0, wish.2) (omega arith)
]

-- each wish of a size still waits, or has got a place
pub given_grown : (must : Spot → Bool) (w : Bool) (n : ℕ) (xs ys : List Spot) → AreWishes xs → AllZip (Gets must) xs ys →
    wanted w n xs ≡ wanted w n ys + count_by (is_given w n) ys
given_grown must w n [] [] wishes each = refl
given_grown must w n [] (y ∷ ys) wishes each = absurd each
given_grown must w n (x ∷ xs) [] wishes each = absurd each
given_grown must w n (x ∷ xs) (y ∷ ys) (wish, wishes) (got, each) =
    let one = one_given must w n x y wish got in
    let rest = given_grown must w n xs ys wishes each in
    omega (arith, one, rest, count_cons (is_wanted w n) x xs, count_cons (is_wanted w n) y ys, count_cons (is_given w n) y ys)

-- where no wish of the size waits, there were free slots enough
pub enough : (must : Spot → Bool) (w : Bool) (n : ℕ) (xs ys : List Spot) → IsPowerOfTwo n → AreWishes xs → Grew must xs ys →
    wanted w n ys ≡ 0 → wanted w n xs ≤ free w n ys
enough must w n xs ys power wishes grew none =
    let step = free_step w n ys power (sized_grown must xs ys wishes grew.each) grew.legal in
    let given = given_grown must w n xs ys wishes grew.each in
    omega (arith, step, given, none)

chosen_shut : (p : Place) (o : ℕ) → p ≡ Chosen o → is_open p ≡ false
chosen_shut p o e = ap is_open e

none_wanted : (w : Bool) (n : ℕ) (xs ys : List Spot) → AllZip (Gets (λ x. is_open x.place)) xs ys → wanted w n ys ≡ 0
none_wanted w n [] [] each = refl
none_wanted w n [] (y ∷ ys) each = absurd each
none_wanted w n (x ∷ xs) [] each = absurd each
none_wanted w n (x ∷ xs) (y ∷ ys) (got, each) =
    let shut : is_open y.place ≡ false = elim got [ inl put ↦ ap (λ z. is_open z.place) put.is | inr kept ↦ ap (λ z. is_open z.place) kept.0 ∙ kept.1 ] in
    let one : cond {A = ℕ} (is_wanted w n y) 1 0 ≡ 0 = rw shut refl in
    let rest = none_wanted w n xs ys each in
    omega (arith, one, rest, count_cons (is_wanted w n) y ys)

-- wishes that need not get a place in the one way need not in the other
pub fewer : (must less : Spot → Bool) (xs ys : List Spot) → ((x : Spot) → must x ≡ false → less x ≡ false) →
    AllZip (Gets must) xs ys → AllZip (Gets less) xs ys
fewer must less [] [] h each = tt
fewer must less [] (y ∷ ys) h each = absurd each
fewer must less (x ∷ xs) [] h each = absurd each
fewer must less (x ∷ xs) (y ∷ ys) h (got, each) =
    (elim got [ inl put ↦ inl put | inr kept ↦ inr (kept.0, h x kept.1) ], fewer must less xs ys h each)

pub placement_enough : EnoughIsFree
placement_enough xs ys w n room wishes power placement is_room =
    let choice : IsChoice w n xs ys = record {
      each = fewer (λ x. is_open x.place) (is_larger w n) xs ys (λ x e. and_left _ _ e) placement.each;
      legal = placement.legal;
    } in
    let equal = free_same xs ys is_room.choice w n wishes power choice is_room.chosen in
    let most = enough (λ x. is_open x.place) w n xs ys power wishes placement (none_wanted w n xs ys placement.each) in
    omega (arith, equal, most, is_room.counted)
