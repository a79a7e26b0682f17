-- What the tests on places say as orders of numbers.
use Rattle.std.proofs.Common.{◌≡◌, ℕ, ◌+◌, ◌<◌, ◌≤◌, Bool, true, false, leb, ◌⊎◌, inl, inr, refl, arith, sym, ◌∙◌}
use Rattle.std.proofs.lemmas.Bool.{leb-true, le-leb, and_parts, and_from, or_cases, cases_lt, cases_Bool, false≢true}
use Rattle.lx_regions.specs.Space.{is_inside, is_apart, window_start}

pub inside_parts : (c : Bool) (o n : ℕ) → is_inside c o n ≡ true → (window_start c ≤ o) × (o + n ≤ window_start c + 2147483648)
unfolding is_inside
inside_parts c o n h =
    let both = and_parts (leb (window_start c) o) (leb (o + n) (window_start c + 2147483648)) h in
    (leb-true _ _ both.0, leb-true _ _ both.1)

pub inside_from : (c : Bool) (o n : ℕ) → window_start c ≤ o → o + n ≤ window_start c + 2147483648 → is_inside c o n ≡ true
unfolding is_inside
inside_from c o n a b = and_from _ _ (le-leb _ _ a) (le-leb _ _ b)

pub apart_parts : (o n p m : ℕ) → is_apart o n p m ≡ true → (o + n ≤ p) ⊎ (p + m ≤ o)
unfolding is_apart
apart_parts o n p m h =
    elim (or_cases (leb (o + n) p) (leb (p + m) o) h) [ inl a ↦ inl (leb-true _ _ a) | inr b ↦ inr (leb-true _ _ b) ]

pub apart_before : (o n p m : ℕ) → o + n ≤ p → is_apart o n p m ≡ true
unfolding is_apart
apart_before o n p m h = rw (le-leb (o + n) p h)

pub apart_behind : (o n p m : ℕ) → p + m ≤ o → is_apart o n p m ≡ true
unfolding is_apart
apart_behind o n p m h =
    elim (cases_Bool (leb (o + n) p)) [
      | inl e ↦ rw e refl
      | inr e ↦ rw (e, le-leb (p + m) o h) refl
    ]

pub meets_parts : (o n p m : ℕ) → is_apart o n p m ≡ false → (p < o + n) × (o < p + m)
meets_parts o n p m h =
    elim (cases_lt p (o + n)) [
      | inr a ↦ absurd (false≢true (sym h ∙ apart_before o n p m a))
      | inl a ↦ elim (cases_lt o (p + m)) [
        | inl b ↦ (a, b)
        | inr b ↦ absurd (false≢true (sym h ∙ apart_behind o n p m b))
      ]
    ]

pub meets_from : (o n p m : ℕ) → p < o + n → o < p + m → is_apart o n p m ≡ false
meets_from o n p m a b =
    elim (cases_Bool (is_apart o n p m)) [
      | inr e ↦ e
      | inl e ↦ absurd (elim (apart_parts o n p m e) [ inl c ↦ omega arith | inr c ↦ omega arith ])
    ]
