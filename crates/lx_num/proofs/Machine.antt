-- What the code's numbers of 128 bits are, over plain variables.
use Rattle.std.proofs.Common.{◌≡◌, ℕ, ◌+◌, ◌-◌, ◌*◌, ◌/◌, ◌%◌, ◌^◌, ◌<◌, ◌≤◌, ◌↔◌, Bool, true, false, max, nat_eq, nat_le, refl, sym, ◌∙◌, ap, arith}
use Rattle.std.specs.Prelude.{ℤ, pos, negsuc, IsTrue, FitsSigned, ◌-ℤ◌}
use Rattle.std.specs.Int.{w128}
use Rattle.std.specs.Int.Signed.{shr_z, mag_shr}
use mir.Val.{to_z, of_z}
use lib.Signed.{lt_z}
use Rattle.std.proofs.Math.Nat.{pow-le-pow_right}
use Rattle.std.proofs.lemmas.Bool.{eq-eqb, eqb-true, cond-false, lt-leb}
use Rattle.std.proofs.lemmas.Int.{ints, to_z-of_z}
use Rattle.std.proofs.lemmas.Nat.{pow_pos, pow-add, mul-add-lt, mod_below, div_below, leading_length}
use lib.Count.{count_leading_zeros}
use Rattle.lx_num.specs.Ints.{modulo, floor_div, FitsBits, field_of, wrap_bits, read_bits}
use Rattle.lx_num.specs.Fewest.{IsFewestBits, magnitude_of}
use Rattle.lx_num.proofs.Ranges.{fits_pos, pos_fits, fits_signed, negative_fits, wrap_bits_same, same_fits}
use Rattle.lx_num.proofs.Lengths.{no_fewer}

-- a pattern of at most 127 bits is a signed number of 128
pub fits_half : (n p : ℕ) → n ≤ 127 → p < 2 ^ n → p < 2 ^ 127
fits_half n p h q =
    let two : 0 < 2 = omega arith in
    let e = pow-le-pow_right two h in
    omega arith

pub pattern_fits : (n p : ℕ) → n ≤ 127 → p < 2 ^ n → FitsSigned w128 (pos p)
pattern_fits n p h q = let e = fits_half n p h q in omega (arith, ints)

pub read_low : (n : ℕ) (s : Bool) (p half : ℕ) → s ≡ true → half ≡ 2 ^ (n - 1) → p < half → read_bits n s p ≡ pos p
read_low n s p half e d h =
    let q : p < 2 ^ (n - 1) = omega arith in
    ap (λ (t : Bool). read_bits n t p) e ∙ cond-false (nat_le (2 ^ (n - 1)) p) (pos p -ℤ pos (2 ^ n)) (pos p) (lt-leb (2 ^ (n - 1)) p q)

pub read_unsigned : (n : ℕ) (s : Bool) (p : ℕ) → s ≡ false → read_bits n s p ≡ pos p
read_unsigned n s p e = ap (λ (t : Bool). read_bits n t p) e

-- what the comparison of the wrapped number with the number says
pub wraps_to_itself : (n : ℕ) (s : Bool) (v r : ℤ) → 1 ≤ n → FitsSigned w128 v → FitsSigned w128 r → r ≡ wrap_bits n s (to_z w128 (of_z w128 v)) → IsTrue (nat_eq (of_z w128 r) (of_z w128 v)) ↔ FitsBits n s v
wraps_to_itself n s v r h f g e =
    let d : r ≡ wrap_bits n s v = simp to_z-of_z at e in (
      (λ t. same_fits n s v h (sym d ∙ sym (to_z-of_z w128 r g) ∙ ap (to_z w128) (eqb-true (of_z w128 r) (of_z w128 v) (search t)) ∙ to_z-of_z w128 v f)),
      (λ k. let q : of_z w128 r ≡ of_z w128 v = ap (of_z w128) (d ∙ wrap_bits_same n s v h k) in search (eq-eqb (of_z w128 r) (of_z w128 v) q)),
    )

-- a shift to the right is a quotient that is rounded down
pub shr_is : (z : ℤ) (m : ℕ) → shr_z z m ≡ floor_div z m
shr_is (pos a) m = refl
shr_is (negsuc a) m = refl

-- the low bits of a shifted number
pub shifted_field : (v : ℤ) (low len r : ℕ) → FitsSigned w128 v → r ≡ modulo (to_z w128 (of_z w128 (shr_z (to_z w128 (of_z w128 v)) (2 ^ low)))) (2 ^ len) → r ≡ field_of v low len
shifted_field v low len r f e =
    let d : r ≡ modulo (to_z w128 (of_z w128 (shr_z v (2 ^ low)))) (2 ^ len) = simp to_z-of_z at e in
    let g : FitsSigned w128 (shr_z v (2 ^ low)) = omega (arith, ints, mag_shr v (2 ^ low), f) in
    d ∙ ap (λ (z : ℤ). modulo z (2 ^ len)) (to_z-of_z w128 (shr_z v (2 ^ low)) g ∙ shr_is v (2 ^ low))

-- a number of 64 bits stays one where a field inside is replaced
pub laid_bound : (v low len x : ℕ) → v < 2 ^ 64 → low + len ≤ 64 → x < 2 ^ len → v / 2 ^ (low + len) * 2 ^ (low + len) + x * 2 ^ low + v % 2 ^ low < 2 ^ 64
laid_bound v low len x p q r =
    let h = pow_pos (low + len) in
    let part = mul-add-lt x (2 ^ low) (v % 2 ^ low) (2 ^ len) r (mod_below v (2 ^ low) (pow_pos low)) in
    let e = pow-add 2 low len in
    let k : 64 ≡ 64 - (low + len) + (low + len) = omega arith in
    let d : 2 ^ 64 ≡ 2 ^ (64 - (low + len)) * 2 ^ (low + len) = ap (λ (j : ℕ). 2 ^ j) k ∙ pow-add 2 (64 - (low + len)) (low + len) in
    let above : v / 2 ^ (low + len) < 2 ^ (64 - (low + len)) = omega (arith, div_below v (2 ^ (low + len)) (2 ^ (64 - (low + len))) h (omega arith)) in
    omega (arith, mul-add-lt (v / 2 ^ (low + len)) (2 ^ (low + len)) (x * 2 ^ low + v % 2 ^ low) (2 ^ (64 - (low + len))) above (omega arith))

-- the length of a number below 2 ^ 127
pub length_is : (v : ℕ) → v < 2 ^ 127 → (v < 2 ^ (128 - count_leading_zeros 128 v)) × (2 ^ (128 - count_leading_zeros 128 v) ≤ 2 * v + 1) × (128 - count_leading_zeros 128 v ≤ 127)
length_is v h =
    let g : v < 2 ^ 128 = omega arith in
    let (m, e, p, q) = leading_length 128 v g in
    let d : 128 - count_leading_zeros 128 v ≡ m = omega arith in
    (rw d p, rw d q, rw d (no_fewer v m 127 h q))

fewest_below_zero : (v : ℤ) (m : ℕ) → lt_z v (pos 0) ≡ true → magnitude_of v < 2 ^ m → 2 ^ m ≤ 2 * magnitude_of v + 1 → IsFewestBits v (m + 1)
fewest_below_zero (pos a) m h p q = absurd (omega (arith, ints, h))
fewest_below_zero (negsuc a) m h p q = record {
  some = omega arith;
  enough = let e : 2 ^ (m + 1 - 1) ≡ 2 ^ m = ap (λ (k : ℕ). 2 ^ k) (omega arith) in fits_signed (m + 1) (negsuc a) (omega arith) (omega arith);
  fewest = λ k g f. omega (arith, no_fewer a m (k - 1) (negative_fits k a f) q, g);
}

fewest_from_zero : (v : ℤ) (m : ℕ) → lt_z v (pos 0) ≡ false → magnitude_of v < 2 ^ m → 2 ^ m ≤ 2 * magnitude_of v + 1 → IsFewestBits v (max m 1)
fewest_from_zero (pos a) m h p q = record {
  some = omega arith;
  enough = let two : 0 < 2 = omega arith in let g : m ≤ max m 1 = omega arith in fits_pos (max m 1) a (omega (arith, pow-le-pow_right two g));
  fewest = λ k g f. omega (arith, no_fewer a m k (pos_fits k a f) q, g);
}
fewest_from_zero (negsuc a) m h p q = absurd (omega (arith, ints, h))

pub fewest_negative : (v : ℤ) (a m : ℕ) → FitsSigned w128 v → lt_z (to_z w128 (of_z w128 v)) (pos 0) ≡ true → a ≡ magnitude_of (to_z w128 (of_z w128 v)) → a < 2 ^ m → 2 ^ m ≤ 2 * a + 1 → IsFewestBits v (m + 1)
fewest_negative v a m f h e p q =
    let d : a ≡ magnitude_of v = simp to_z-of_z at e in
    let g : lt_z v (pos 0) ≡ true = simp to_z-of_z at h in
    fewest_below_zero v m g (omega arith) (omega arith)

pub fewest_natural : (v : ℤ) (a m : ℕ) → FitsSigned w128 v → lt_z (to_z w128 (of_z w128 v)) (pos 0) ≡ false → a ≡ magnitude_of (to_z w128 (of_z w128 v)) → a < 2 ^ m → 2 ^ m ≤ 2 * a + 1 → IsFewestBits v (max m 1)
fewest_natural v a m f h e p q =
    let d : a ≡ magnitude_of v = simp to_z-of_z at e in
    let g : lt_z v (pos 0) ≡ false = simp to_z-of_z at h in
    fewest_from_zero v m g (omega arith) (omega arith)
