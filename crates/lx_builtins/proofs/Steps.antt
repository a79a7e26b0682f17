-- The numbers of a range.
use Rattle.std.proofs.Common.{◌≡◌, ◌∙◌, ℕ, ◌+◌, zero, suc, Bool, true, false, [], ◌∷◌, refl, arith}
use Rattle.std.specs.Prelude.{ℤ, pos, negsuc, ◌+ℤ◌, FitsSigned, int_lt, if◌then◌else◌}
use Rattle.std.specs.Int.{w128}
use Rattle.std.proofs.lemmas.Int.{ints}
use Rattle.std.proofs.lemmas.Bool.{false_from_ne_true}
use Rattle.lx_builtins.specs.Numbers.{comes_before, steps_from}

steps_down : (n k : ℕ) (step a past : ℤ) → n ≡ k + 1 → steps_from n step a past ≡ (if comes_before step a past then a ∷ steps_from k step (a +ℤ step) past else [])
unfolding steps_from
steps_down zero k step a past e = absurd (omega (arith, e))
steps_down (suc n) k step a past e = let same : n ≡ k = omega (arith, e) in rw same refl

pub steps_on : (n k : ℕ) (step a past : ℤ) → n ≡ k + 1 → comes_before step a past ≡ true → steps_from n step a past ≡ a ∷ steps_from k step (a +ℤ step) past
steps_on n k step a past e h = steps_down n k step a past e ∙ rw h refl

pub steps_none : (n : ℕ) (step a past : ℤ) → n ≡ 0 → steps_from n step a past ≡ []
unfolding steps_from
steps_none zero step a past e = refl
steps_none (suc n) step a past e = absurd (omega (arith, e))

-- what doesn't fit comes past the end
pub ended : (n : ℕ) (step a past : ℤ) → comes_before step a past ≡ false → steps_from n step a past ≡ []
unfolding steps_from
ended zero step a past e = refl
ended (suc n) step a past e = rw e refl

up_fits : (s : ℕ) (a past : ℤ) → FitsSigned w128 a → FitsSigned w128 past → int_lt (a +ℤ pos s) past ≡ true → FitsSigned w128 (a +ℤ pos s)
up_fits s a past f g e = grind (arith, ints)

down_fits : (s : ℕ) (a past : ℤ) → FitsSigned w128 a → FitsSigned w128 past → int_lt past (a +ℤ negsuc s) ≡ true → FitsSigned w128 (a +ℤ negsuc s)
down_fits s a past f g e = grind (arith, ints)

past_the_end : (step a past : ℤ) → FitsSigned w128 a → FitsSigned w128 past → (FitsSigned w128 (a +ℤ step) → ⊥) → comes_before step (a +ℤ step) past ≡ false
past_the_end (pos s) a past f g n = false_from_ne_true (int_lt (a +ℤ pos s) past) (λ e. n (up_fits s a past f g e))
past_the_end (negsuc s) a past f g n = false_from_ne_true (int_lt past (a +ℤ negsuc s)) (λ e. n (down_fits s a past f g e))

pub overflown : (n : ℕ) (step a past : ℤ) → FitsSigned w128 a → FitsSigned w128 past → (FitsSigned w128 (a +ℤ step) → ⊥) → steps_from n step (a +ℤ step) past ≡ []
overflown n step a past f g h = ended n step (a +ℤ step) past (past_the_end step a past f g h)
