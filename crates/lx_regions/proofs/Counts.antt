-- Counting the numbers below a bound that pass a test.
use Rattle.std.proofs.Common.{◌≡◌, ℕ, suc, zero, ◌+◌, ◌<◌, ◌≤◌, Bool, true, false, cond, inl, inr, refl, arith, ap}
use Rattle.std.proofs.lemmas.Bool.{cases_lt}
use Rattle.lx_regions.specs.Free.{count}

abbrev one : Bool → ℕ
one b = cond b 1 0

pub count_same : (k : ℕ) (f g : ℕ → Bool) → ((i : ℕ) → i < k → f i ≡ g i) → count k f ≡ count k g
unfolding count
count_same zero f g h = refl
count_same (suc k) f g h =
    let rest : count k f ≡ count k g = count_same k f g (λ i l. h i (omega arith)) in
    let here : one (f k) ≡ one (g k) = ap one (h k (omega arith)) in
    cc

pub count_none : (k : ℕ) (f : ℕ → Bool) → ((i : ℕ) → i < k → f i ≡ false) → count k f ≡ 0
unfolding count
count_none zero f h = refl
count_none (suc k) f h =
    let rest : count k f ≡ 0 = count_none k f (λ i l. h i (omega arith)) in
    let here : one (f k) ≡ 0 = ap one (h k (omega arith)) in
    omega (arith, rest, here)

added : (k m : ℕ) (f g : ℕ → Bool) → f k ≡ true → g k ≡ false → count k g + m ≡ count k f → count (suc k) g + suc m ≡ count (suc k) f
unfolding count
added k m f g a b e =
    let here : one (f k) ≡ 1 = ap one a in let there : one (g k) ≡ 0 = ap one b in omega (arith, here, there, e)

kept : (k m : ℕ) (f g : ℕ → Bool) → f k ≡ g k → count k g + m ≡ count k f → count (suc k) g + m ≡ count (suc k) f
unfolding count
kept k m f g a e = let here : one (f k) ≡ one (g k) = ap one a in omega (arith, here, e)

-- g is f but at m numbers from low on, which pass f and not g
pub count_without : (k low m : ℕ) (f g : ℕ → Bool) → low + m ≤ k →
    ((i : ℕ) → i < low → f i ≡ g i) → ((i : ℕ) → low + m ≤ i → i < k → f i ≡ g i) →
    ((i : ℕ) → low ≤ i → i < low + m → (f i ≡ true) × (g i ≡ false)) →
    count k g + m ≡ count k f
count_without zero low m f g room below above within = omega (arith, count_same zero f g (λ i l. absurd (omega (arith, l))))
count_without (suc k) low zero f g room below above within =
    omega (arith, count_same (suc k) f g (λ i l. elim (cases_lt i low) [ inl b ↦ below i b | inr a ↦ above i (omega arith) l ]))
count_without (suc k) low (suc m) f g room below above within =
    elim (cases_lt k (low + suc m)) [
      | inl last ↦
          let rest = count_without k low m f g (omega arith) below (λ i a l. absurd (omega arith)) (λ i a b. within i a (omega arith)) in
          let here = within k (omega arith) last in
          added k m f g here.0 here.1 rest
      | inr more ↦
          let rest = count_without k low (suc m) f g more below (λ i a l. above i a (omega arith)) within in
          kept k (suc m) f g (above k more (omega arith)) rest
    ]
