-- The lowest number that is free, and that there is one.
use Rattle.std.proofs.Common.{◌≡◌, ◌≢◌, ℕ, suc, zero, ◌+◌, ◌-◌, ◌<◌, ◌≤◌, Bool, true, false, List, [], ◌∷◌, ◌++◌, length, take, drop, get_or, map, Option, Some, None, ◌⊎◌, inl, inr, refl, arith, ap, sym, subst, ◌∙◌, add-one}
use Rattle.std.specs.Prelude.{slice_get}
use Rattle.std.proofs.lemmas.Option.{slice_get_within}
use Rattle.std.proofs.lemmas.List.{length-append}
use Rattle.std.proofs.lemmas.Bool.{cases_lt, cases_eq}
use Rattle.lx_fhdl.specs.declared.places.Numbered.{Numbered}
use Rattle.lx_alloc.specs.Numbers.{IsStated, IsGiven, CanStand, IsPart, IsUsed, IsLowestFree, AreLeast, AreNumbered}
use Rattle.lx_alloc.proofs.Stand.{get_left, get_last}

abbrev pub IsIn : List ℕ → ℕ → Type 0
IsIn xs n = (j : ℕ) × (slice_get xs j ≡ Some n)

without : List ℕ → ℕ → List ℕ
without [] j = []
without (x ∷ xs) zero = xs
without (x ∷ xs) (suc j) = x ∷ without xs j

without_length : (xs : List ℕ) (j n : ℕ) → slice_get xs j ≡ Some n → suc (length (without xs j)) ≡ length xs
unfolding without
without_length [] j n e = cc
without_length (x ∷ xs) zero n e = refl
without_length (x ∷ xs) (suc j) n e = ap suc (without_length xs j n e)

without_in : (xs : List ℕ) (j n k m : ℕ) → slice_get xs j ≡ Some n → slice_get xs k ≡ Some m → m ≢ n → IsIn (without xs j) m
unfolding without
without_in [] j n k m e f ne = cc
without_in (x ∷ xs) zero n zero m e f ne = let same : m ≡ n = cc in absurd (ne same)
without_in (x ∷ xs) zero n (suc k) m e f ne = (k, f)
without_in (x ∷ xs) (suc j) n zero m e f ne = (0, f)
without_in (x ∷ xs) (suc j) n (suc k) m e f ne = let rest = without_in xs j n k m e f ne in (suc rest.0, rest.1)

-- a list that has all numbers below k is as long
pub all_in : (k : ℕ) (xs : List ℕ) → ((n : ℕ) → n < k → IsIn xs n) → k ≤ length xs
all_in zero xs h = omega arith
all_in (suc k) xs h =
    let at = h k (omega arith) in
    let rest = all_in k (without xs at.0) (λ n l. let there = h n (omega arith) in without_in xs at.0 k there.0 n at.1 there.1 (λ e. absurd (omega arith))) in
    omega (arith, rest, without_length xs at.0 k at.1)

-- the stated numbers of a list of wishes
stated : List (Option ℕ) → List ℕ
stated [] = []
stated (None ∷ ws) = stated ws
stated (Some n ∷ ws) = n ∷ stated ws

stated_length : (ws : List (Option ℕ)) → length (stated ws) ≤ length ws
unfolding stated
stated_length [] = omega arith
stated_length (None ∷ ws) = omega (arith, stated_length ws)
stated_length (Some n ∷ ws) = omega (arith, stated_length ws)

stated_in : (ws : List (Option ℕ)) (k n : ℕ) → slice_get ws k ≡ Some (Some n) → IsIn (stated ws) n
unfolding stated
stated_in [] k n e = cc
stated_in (None ∷ ws) zero n e = cc
stated_in (None ∷ ws) (suc k) n e = stated_in ws k n e
stated_in (Some m ∷ ws) zero n e = let same : m ≡ n = cc in (0, ap Some same)
stated_in (Some m ∷ ws) (suc k) n e = let rest = stated_in ws k n e in (suc rest.0, rest.1)

in_left : (xs ys : List ℕ) (n : ℕ) → IsIn xs n → IsIn (xs ++ ys) n
in_left [] ys n (j, e) = cc
in_left (x ∷ xs) ys n (zero, e) = (0, e)
in_left (x ∷ xs) ys n (suc j, e) = let rest = in_left xs ys n (j, e) in (suc rest.0, rest.1)

in_right : (xs ys : List ℕ) (n : ℕ) → IsIn ys n → IsIn (xs ++ ys) n
in_right [] ys n h = h
in_right (x ∷ xs) ys n h = let rest = in_right xs ys n h in (suc rest.0, rest.1)

get_behind : (ws : List (Option ℕ)) (i k n : ℕ) → slice_get ws k ≡ Some (Some n) → i ≤ k → slice_get (drop i ws) (k - i) ≡ Some (Some n)
get_behind [] zero k n e l = cc
get_behind [] (suc i) k n e l = cc
get_behind (w ∷ ws) zero zero n e l = e
get_behind (w ∷ ws) zero (suc k) n e l = let same : suc k - 0 ≡ suc k = omega arith in rw same e
get_behind (w ∷ ws) (suc i) zero n e l = absurd (omega arith)
get_behind (w ∷ ws) (suc i) (suc k) n e l = let same : suc k - suc i ≡ k - i = omega arith in rw same (get_behind ws i k n e (omega arith))

behind_length : (ws : List (Option ℕ)) (i : ℕ) → i < length ws → suc (length (drop (suc i) ws) + i) ≡ length ws
behind_length [] i l = absurd (omega arith)
behind_length (w ∷ ws) zero l = omega arith
behind_length (w ∷ ws) (suc i) l = let rest = behind_length ws i (omega arith) in omega (arith, rest)

pub room : (wished : List (Option ℕ)) (numbers : List ℕ) → CanStand wished → IsPart wished numbers → slice_get wished (length numbers) ≡ Some None →
    ((n : ℕ) → n < 32 → IsUsed wished numbers n) → ⊥
room wished numbers can part open_ used =
    let i = length numbers in
    let all = all_in 32 (numbers ++ stated (drop (suc i) wished)) (λ n l. elim (used n l) [
      | inr given ↦ in_left numbers _ n (given.0, given.2)
      | inl wish ↦ elim (cases_lt wish.0 i) [
        | inl before ↦ in_left numbers _ n (wish.0, part.stand wish.0 n before wish.1)
        | inr later ↦ elim (cases_eq wish.0 i) [
          | inl here ↦ let f = ap (slice_get wished) here in absurd (cc)
          | inr behind ↦ in_right numbers _ n (stated_in (drop (suc i) wished) (wish.0 - suc i) n (get_behind wished (suc i) wish.0 n wish.1 (omega arith)))
        ]
      ]
    ]) in
    let within = slice_get_within wished i None open_ in
    omega (arith, all, length-append numbers (stated (drop (suc i) wished)), stated_length (drop (suc i) wished), behind_length wished i within, can.few)

-- what stands in a list with one more element
pub get_push : (xs : List ℕ) (x i n : ℕ) → slice_get (xs ++ x ∷ []) i ≡ Some n → ((i ≡ length xs) × (n ≡ x)) ⊎ ((i < length xs) × (slice_get xs i ≡ Some n))
get_push [] x zero n e = inl (refl, cc)
get_push [] x (suc i) n e = cc
get_push (y ∷ xs) x zero n e = inr (omega arith, e)
get_push (y ∷ xs) x (suc i) n e = elim (get_push xs x i n e) [
  | inl last ↦ inl (ap suc last.0, last.1)
  | inr before ↦ inr (omega (arith, before.0), before.1)
]

given_push : (xs : List ℕ) (x i p : ℕ) → IsGiven i xs p → IsGiven i (xs ++ x ∷ []) p
given_push xs x i p (k, l, e) = (k, l, get_left xs x k p e)

-- one number more: it is at most 31, no wish but its own states it, no other has it, and it is the lowest such
part_more : (wished : List (Option ℕ)) (numbers : List ℕ) (n : ℕ) → IsPart wished numbers → length numbers < length wished → n ≤ 31 →
    ((m : ℕ) → slice_get wished (length numbers) ≡ Some (Some m) → n ≡ m) →
    ((i : ℕ) → slice_get numbers i ≡ Some n → ⊥) →
    ((j : ℕ) → slice_get wished j ≡ Some (Some n) → length numbers ≡ j) →
    ((p : ℕ) → slice_get wished (length numbers) ≡ Some None → p < n → IsUsed wished numbers p) →
    IsPart wished (numbers ++ n ∷ [])
part_more wished numbers n part more small own fresh other lowest = record {
  few = omega (arith, length-append numbers (n ∷ []));
  stand = λ i m l e. elim (cases_lt i (length numbers)) [
    | inl before ↦ get_left numbers n i m (part.stand i m before e)
    | inr last ↦
        let same : i ≡ length numbers = omega (arith, length-append numbers (n ∷ [])) in
        (ap (slice_get (numbers ++ n ∷ [])) same ∙ get_last numbers n) ∙ ap Some (own m (sym (ap (slice_get wished) same) ∙ e))
  ];
  within = λ i m e. elim (get_push numbers n i m e) [ inl last ↦ omega (arith, last.1) | inr before ↦ part.within i m before.1 ];
  distinct = λ i j m e f. elim (get_push numbers n i m e) [
    | inl last ↦ elim (get_push numbers n j m f) [
      | inl last' ↦ omega (arith, last.0, last'.0)
      | inr before' ↦ absurd (fresh j (before'.1 ∙ ap Some last.1))
    ]
    | inr before ↦ elim (get_push numbers n j m f) [
      | inl last' ↦ absurd (fresh i (before.1 ∙ ap Some last'.1))
      | inr before' ↦ part.distinct i j m before.1 before'.1
    ]
  ];
  apart = λ i j m e f. elim (get_push numbers n i m e) [
    | inl last ↦ last.0 ∙ other j (f ∙ ap (λ z. Some (Some z)) last.1)
    | inr before ↦ part.apart i j m before.1 f
  ];
  lowest = λ i m p e f below. elim (get_push numbers n i m f) [
    | inr before ↦ elim (part.lowest i m p e before.1 below) [ inl a ↦ inl a | inr b ↦ inr (given_push numbers n i p b) ]
    | inl last ↦ elim (lowest p (sym (ap (slice_get wished) last.0) ∙ e) (omega (arith, below, last.1))) [
      | inl a ↦ inl a
      | inr b ↦ inr (given_push numbers n i p (b.0, omega (arith, b.1, last.0), b.2))
    ]
  ];
}

pub part_stated : (wished : List (Option ℕ)) (numbers : List ℕ) (n : ℕ) → CanStand wished → IsPart wished numbers → slice_get wished (length numbers) ≡ Some (Some n) →
    IsPart wished (numbers ++ n ∷ [])
part_stated wished numbers n can part e =
    part_more wished numbers n part (slice_get_within wished (length numbers) (Some n) e) (can.small (length numbers) n e)
    (λ m f. cc)
    (λ i f. let same = part.apart i (length numbers) n f e in absurd (omega (arith, same, slice_get_within numbers i n f)))
    (λ j f. can.once (length numbers) j n e f)
    (λ p f below. cc)

pub part_lowest : (wished : List (Option ℕ)) (numbers : List ℕ) (n : ℕ) → IsPart wished numbers → slice_get wished (length numbers) ≡ Some None → IsLowestFree wished numbers n →
    IsPart wished (numbers ++ n ∷ [])
part_lowest wished numbers n part e free =
    part_more wished numbers n part (slice_get_within wished (length numbers) None e) free.within
    (λ m f. cc)
    (λ i f. absurd (free.free (inr (i, slice_get_within numbers i n f, f))))
    (λ j f. absurd (free.free (inl (j, f))))
    (λ p f below. free.lowest p below)

pub part_none : (wished : List (Option ℕ)) → IsPart wished []
part_none wished = record {
  few = omega arith;
  stand = λ i n l e. absurd (omega arith);
  within = λ i n e. cc;
  distinct = λ i j n e f. cc;
  apart = λ i j n e f. cc;
  lowest = λ i n p e f below. cc;
}

pub part_all : (wished : List (Option ℕ)) (numbers : List ℕ) → IsPart wished numbers → length numbers ≡ length wished → AreLeast wished numbers
part_all wished numbers part same = record {
  many = same;
  stand = λ i n e. part.stand i n (omega (arith, same, slice_get_within wished i (Some n) e)) e;
  within = part.within;
  distinct = part.distinct;
  lowest = part.lowest;
}
