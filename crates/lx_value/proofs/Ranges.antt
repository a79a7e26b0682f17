-- What large exponents and numbers of places give.
use Rattle.std.proofs.Common.{◌≡◌, ℕ, ◌+◌, ◌%◌, ◌^◌, ◌<◌, ◌≤◌, refl, sym, ◌∙◌, ap, arith, neg_ℤ, cond, inl, inr}
use Rattle.std.specs.Prelude.{ℤ, pos, negsuc, suc, zero, unsigned_abs, int_lt, min, FitsSigned, Result, Err, nat_lt, nat_eq, true, false, if◌then◌else◌, ◌-ℤ◌, ◌<ℤ◌}
use Rattle.std.specs.Int.{int_pow, int_rem_euclid, w128, cast_signed, cast_unsigned}
use Rattle.std.specs.Int.Signed.{shr_z, mag_shr}
use Rattle.std.proofs.lemmas.Int.{unsigned_abs-mul, ints, to_z-of_z, fits_signed_from_abs}
use Rattle.std.proofs.lemmas.Nat.{div-add-mod'}
use Rattle.std.proofs.lemmas.Bool.{cases_lt}
use Rattle.std.proofs.lemmas.Bool.Decides.{nat_tests}
use Rattle.std.proofs.Math.Nat.{pow-suc, pow-le-pow_left, pow-le-pow_right, mul-le-mul_left, div-eq_of_lt}
use Rattle.lx_num.specs.Ints.{floor_div}
use Rattle.lx_num.proofs.Machine.{shr_is}
use Rattle.lx_value.specs.declared.numbers.NumFault.{NumFault}
use Rattle.lx_value.specs.declared.numbers.NumFault.TheVariants.{NumberRange}
use Rattle.lx_value.specs.Numbers.{ranged, shifted_left, shifted_right, floor_remainder, divided}

pub far : (z : ℤ) → 2 ^ 127 ≤ unsigned_abs z → ranged z ≡ Err NumberRange
far z h = grind (arith, nat_tests)

pub far_shift : (a : ℤ) (n : ℕ) → 0 < unsigned_abs a → 127 ≤ n → ranged (shifted_left a n) ≡ Err NumberRange
far_shift a n p h =
    far (shifted_left a n) (omega (arith, unsigned_abs-mul a (pos (2 ^ n)), mul-le-mul_left (2 ^ n) p, pow-le-pow_right {n = 2} (omega arith) h))

-- ---- exponents

zero_pow : (n : ℕ) → 0 < n → 0 ^ n ≡ 0
zero_pow zero h = absurd (omega arith)
zero_pow (suc n) h = omega (arith, pow-suc 0 n)

one_pow : (n : ℕ) → 1 ^ n ≡ 1
one_pow zero = refl
one_pow (suc n) = omega (arith, pow-suc 1 n, one_pow n)

large_pow : (a n : ℕ) → 127 ≤ n → 2 ^ 127 ≤ suc (suc a) ^ n
large_pow a n h =
    let p : 2 ≤ suc (suc a) = omega arith in
    omega (arith, pow-le-pow_right {n = 2} (omega arith) h, pow-le-pow_left p n)

-- m, with a minus where r is odd
abbrev signed : ℕ → ℕ → ℤ
signed r m = cond (nat_eq r 0) (pos m) (neg_ℤ (pos m))

size-neg : (m : ℕ) → unsigned_abs (neg_ℤ (pos m)) ≡ m
size-neg zero = refl
size-neg (suc m) = refl

size-neg_ℤ : (a : ℤ) → unsigned_abs (neg_ℤ a) ≡ unsigned_abs a
size-neg_ℤ (pos zero) = refl
size-neg_ℤ (pos (suc a)) = refl
size-neg_ℤ (negsuc a) = refl

size-opposite : (a : ℤ) → unsigned_abs (pos 0 -ℤ a) ≡ unsigned_abs a
size-opposite a = let e : pos 0 -ℤ a ≡ neg_ℤ a = omega (arith, ints) in ap unsigned_abs e ∙ size-neg_ℤ a

size-signed : (r m : ℕ) → unsigned_abs (signed r m) ≡ m
size-signed r m = elim (nat_eq r 0) as (λ b. unsigned_abs (cond b (pos m) (neg_ℤ (pos m))) ≡ m) [ true ↦ refl | false ↦ size-neg m ]

same_power : (a : ℤ) (k e : ℕ) → 127 ≤ k → 127 ≤ e → k % 2 ≡ e % 2 → ranged (int_pow a k) ≡ ranged (int_pow a e)
same_power (pos zero) k e p q h =
    ap (λ (n : ℕ). ranged (pos n)) (zero_pow k (omega arith) ∙ sym (zero_pow e (omega arith)))
same_power (pos (suc zero)) k e p q h = ap (λ (n : ℕ). ranged (pos n)) (one_pow k ∙ sym (one_pow e))
same_power (pos (suc (suc a))) k e p q h =
    far (pos (suc (suc a) ^ k)) (large_pow a k p) ∙ sym (far (pos (suc (suc a) ^ e)) (large_pow a e q))
same_power (negsuc zero) k e p q h =
    ap (λ (n : ℕ). ranged (signed n (1 ^ k))) h ∙ ap (λ (n : ℕ). ranged (signed (e % 2) n)) (one_pow k ∙ sym (one_pow e))
same_power (negsuc (suc a)) k e p q h =
    far (signed (k % 2) (suc (suc a) ^ k)) (omega (arith, size-signed (k % 2) (suc (suc a) ^ k), large_pow a k p))
    ∙ sym (far (signed (e % 2) (suc (suc a) ^ e)) (omega (arith, size-signed (e % 2) (suc (suc a) ^ e), large_pow a e q)))

shortened : (a : ℤ) (e k : ℕ) → k ≡ (if nat_lt e 128 then e else 128 + e % 2) → ranged (int_pow a k) ≡ ranged (int_pow a e)
shortened a e k h =
    elim (cases_lt e 128) [
      | inl p ↦ ap (λ (n : ℕ). ranged (int_pow a n)) (grind (arith, nat_tests))
      | inr p ↦ let i : k ≡ 128 + e % 2 = grind (arith, nat_tests) in same_power a k e (omega arith) (omega arith) (omega arith)
    ]

-- ---- numbers of 128 bits as the code holds them

abbrev raw : ℤ → ℤ
raw z = cast_signed w128 (cast_unsigned w128 z)

pub nonzero : (a : ℤ) → FitsSigned w128 a → (cast_unsigned w128 a ≡ 0 → ⊥) → 0 < unsigned_abs a
nonzero (pos zero) f h = absurd (h refl)
nonzero (pos (suc a)) f h = omega arith
nonzero (negsuc a) f h = omega arith

pub short_power : (a : ℤ) (e k : ℕ) → FitsSigned w128 a → k ≡ (if nat_lt e 128 then e else 128 + e % 2) → ranged (int_pow (raw a) k) ≡ ranged (int_pow a e)
short_power a e k f h = ap (λ (z : ℤ). ranged (int_pow z k)) (to_z-of_z w128 a f) ∙ shortened a e k h

-- ---- shifts down

-- 127 places leave the sign alone, and so do more
far_floor : (a : ℤ) (n : ℕ) → unsigned_abs a < 2 ^ 127 → 127 ≤ n → floor_div a (2 ^ 127) ≡ floor_div a (2 ^ n)
far_floor (pos a) n h p =
    let q : a < 2 ^ n = omega (arith, pow-le-pow_right {n = 2} (omega arith) p) in
    ap pos (div-eq_of_lt h ∙ sym (div-eq_of_lt q))
far_floor (negsuc a) n h p =
    let i : a < 2 ^ 127 = omega arith in
    let q : a < 2 ^ n = omega (arith, pow-le-pow_right {n = 2} (omega arith) p) in
    ap negsuc (div-eq_of_lt i ∙ sym (div-eq_of_lt q))

short_floor : (a : ℤ) (n k : ℕ) → unsigned_abs a < 2 ^ 127 → k ≡ min n 127 → floor_div a (2 ^ k) ≡ floor_div a (2 ^ n)
short_floor a n k h e =
    elim (cases_lt n 127) [
      | inl p ↦ ap (λ (j : ℕ). floor_div a (2 ^ j)) (omega arith)
      | inr p ↦ ap (λ (j : ℕ). floor_div a (2 ^ j)) (let d : k ≡ 127 = omega arith in d) ∙ far_floor a n h p
    ]

pub shifted_is : (a : ℤ) (n k : ℕ) → FitsSigned w128 a → unsigned_abs a < 2 ^ 127 → k ≡ min n 127 → raw (shr_z (raw a) (2 ^ k)) ≡ shifted_right a n
shifted_is a n k f h e =
    let g : FitsSigned w128 (shr_z a (2 ^ k)) = record { sfits = omega (arith, mag_shr a (2 ^ k), f.sfits) } in
    ap (λ (z : ℤ). raw (shr_z z (2 ^ k))) (to_z-of_z w128 a f)
    ∙ to_z-of_z w128 (shr_z a (2 ^ k)) g
    ∙ shr_is a (2 ^ k)
    ∙ short_floor a n k h e

-- ---- remainders

-- what is left by a negative divisor is the opposite of what is left of the opposite numbers
rest_down : (a b : ℤ) → b <ℤ pos 0 → neg_ℤ (int_rem_euclid (neg_ℤ a) (neg_ℤ b)) ≡ floor_remainder a b
rest_down (pos zero) (negsuc n) h = omega (arith, ints)
rest_down (pos (suc a)) (negsuc n) h = omega (arith, ints, div-add-mod' a (suc n))
rest_down (negsuc a) (negsuc n) h = omega (arith, ints, div-add-mod' (suc a) (suc n))
rest_down a (pos n) h = absurd (omega (arith, ints))

fits_opposite : (a : ℤ) → unsigned_abs a < 2 ^ 127 → FitsSigned w128 (pos 0 -ℤ a)
fits_opposite a h = fits_signed_from_abs w128 (pos 0 -ℤ a) (omega (arith, size-opposite a))

raw_opposite : (a : ℤ) → unsigned_abs a < 2 ^ 127 → raw (pos 0 -ℤ raw a) ≡ neg_ℤ a
raw_opposite a h =
    ap (λ (z : ℤ). raw (pos 0 -ℤ z)) (to_z-of_z w128 a (fits_signed_from_abs w128 a h))
    ∙ to_z-of_z w128 (pos 0 -ℤ a) (fits_opposite a h)
    ∙ omega (arith, ints)

negative : (b : ℤ) → int_lt b (pos 0) ≡ true → b <ℤ pos 0
negative (negsuc n) h = omega (arith, ints)
negative (pos n) h = absurd (grind (arith, nat_tests))

divided_below : (b z : ℤ) → b <ℤ pos 0 → ranged z ≡ divided b z
divided_below (negsuc n) z h = grind (arith, nat_tests)
divided_below (pos n) z h = absurd (omega (arith, ints))

pub remainder_down : (a b r : ℤ) (x : Result ℤ NumFault) → unsigned_abs a < 2 ^ 127 → unsigned_abs b < 2 ^ 127 → int_lt (raw b) (pos 0) ≡ true → r ≡ int_rem_euclid (raw (pos 0 -ℤ raw a)) (raw (pos 0 -ℤ raw b)) → unsigned_abs r < unsigned_abs (raw (pos 0 -ℤ raw b)) → x ≡ ranged (raw (pos 0 -ℤ raw r)) → x ≡ divided b (floor_remainder a b)
remainder_down a b r x h i l e s t =
    let below : b <ℤ pos 0 = negative b (ap (λ (z : ℤ). int_lt z (pos 0)) (sym (to_z-of_z w128 b (fits_signed_from_abs w128 b i))) ∙ l) in
    let small : unsigned_abs r < 2 ^ 127 = omega (arith, s, ap unsigned_abs (raw_opposite b i), size-neg_ℤ b) in
    t
    ∙ ap ranged (raw_opposite r small)
    ∙ ap (λ (z : ℤ). ranged (neg_ℤ z)) e
    ∙ ap (λ (z : ℤ). ranged (neg_ℤ (int_rem_euclid z (raw (pos 0 -ℤ raw b))))) (raw_opposite a h)
    ∙ ap (λ (z : ℤ). ranged (neg_ℤ (int_rem_euclid (neg_ℤ a) z))) (raw_opposite b i)
    ∙ ap ranged (rest_down a b below)
    ∙ divided_below b (floor_remainder a b) below
