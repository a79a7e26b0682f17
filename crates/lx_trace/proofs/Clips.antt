-- Numbers that are cut fit no signal.
use Rattle.std.proofs.Common.{◌≡◌, ℕ, suc, Bool, true, false, ◌^◌, ◌-◌, ◌+◌, ◌≤◌, ◌<◌, min, sym, ◌∙◌, ap, subst, arith, inl, inr}
use Rattle.std.specs.Prelude.{ℤ, pos, negsuc}
use Rattle.std.proofs.Math.Nat.{pow-le-pow_right}
use Rattle.std.proofs.lemmas.Bool.{cases_lt, false_from_ne_true}
use Rattle.std.proofs.lemmas.Bool.Decides.{Decides-int_eq}
use Rattle.std.proofs.lemmas.Int.{ints}
use Rattle.std.proofs.Common.{neg_ℤ}
use borrow.Author.Differences.{up, down}
use Rattle.lx_num.specs.declared.Shape.{Shape}
use Rattle.lx_num.specs.Ints.{Fits, FitsBits, wrapped}
use Rattle.lx_num.proofs.Ranges.{FitsBits-wrap_bits, read_bits-modulo, signed_fits, unsigned_fits}
use Rattle.lx_trace.specs.Cutoff.{clipped, cutoff}
use Rattle.lx_trace.specs.Reading.{IsFitting}
use Rattle.lx_trace.specs.Traces.{fits}

-- what fits is below 2 to the power 64, and so is its negative
bounded : (n : ℕ) (signed : Bool) (z : ℤ) → n ≤ 64 → FitsBits n signed z → (up z < down z + cutoff) × (down z < up z + cutoff)
bounded n false z most f =
    let b = unsigned_fits n z f in
    let two : 0 < 2 = omega arith in
    let p : 2 ^ n ≤ 2 ^ 64 = pow-le-pow_right two most in
    (omega (arith, b.0, b.1, p), omega (arith, b.0, b.1, p))
bounded n true z most f =
    let b = signed_fits n z f in
    let two : 0 < 2 = omega arith in
    let less : n - 1 ≤ 63 = omega arith in
    let p : 2 ^ (n - 1) ≤ 2 ^ 63 = pow-le-pow_right two less in
    (omega (arith, b.0, b.1, p), omega (arith, b.0, b.1, p))

within : (z : ℤ) → (up z < down z + cutoff) → (down z < up z + cutoff) → clipped z ≡ z
within (pos n) h l = ap pos (let e : min n cutoff ≡ n = omega (arith, ints, h, l) in e)
within (negsuc n) h l = ap (λ (k : ℕ). neg_ℤ (pos k)) (let e : min (suc n) cutoff ≡ suc n = omega (arith, ints, h, l) in e)

-- what was cut is at the bound
clipped_within : (z : ℤ) → (up (clipped z) < down (clipped z) + cutoff) → (down (clipped z) < up (clipped z) + cutoff) → clipped z ≡ z
clipped_within (pos n) h l =
    elim (cases_lt n cutoff) [
      | inl p ↦ ap pos (let e : min n cutoff ≡ n = omega arith in e)
      | inr p ↦ absurd (let e : min n cutoff ≡ cutoff = omega arith in omega (arith, ints, h, l, e))
    ]
clipped_within (negsuc n) h l =
    elim (cases_lt (suc n) cutoff) [
      | inl p ↦ ap (λ (k : ℕ). neg_ℤ (pos k)) (let e : min (suc n) cutoff ≡ suc n = omega arith in e)
      | inr p ↦ absurd (let e : min (suc n) cutoff ≡ cutoff = omega arith in omega (arith, ints, h, subst (λ (k : ℕ). down (neg_ℤ (pos k)) < up (neg_ℤ (pos k)) + cutoff) e l))
    ]

fits_is : (s : Shape) (z : ℤ) → 1 ≤ s.bits → Fits s z → fits s z ≡ true
fits_is s z some f = (Decides-int_eq (wrapped s z) z).1 (read_bits-modulo s.bits s.signed z some f)

unfit_is : (s : Shape) (z : ℤ) → 1 ≤ s.bits → (Fits s z → ⊥) → fits s z ≡ false
unfit_is s z some n = false_from_ne_true (fits s z) (λ e. n (subst (λ (y : ℤ). Fits s y) ((Decides-int_eq (wrapped s z) z).0 e) (FitsBits-wrap_bits s.bits s.signed z some)))

pub clip_fits : (s : Shape) (y z : ℤ) → y ≡ clipped z → 1 ≤ s.bits → s.bits ≤ 64 → Fits s y → IsFitting s z true
clip_fits s y z e some most f =
    let g : Fits s (clipped z) = subst (λ (q : ℤ). Fits s q) e f in
    let b = bounded s.bits s.signed (clipped z) most g in
    let same = clipped_within z b.0 b.1 in
    (fits_is s z some (subst (λ (q : ℤ). Fits s q) same g), same)

pub clip_unfit : (s : Shape) (y z : ℤ) → y ≡ clipped z → 1 ≤ s.bits → s.bits ≤ 64 → (Fits s y → ⊥) → IsFitting s z false
clip_unfit s y z e some most n =
    unfit_is s z some (λ f.
    let b = bounded s.bits s.signed z most f in
    n (subst (λ (q : ℤ). Fits s q) (sym (within z b.0 b.1) ∙ sym e) f))
