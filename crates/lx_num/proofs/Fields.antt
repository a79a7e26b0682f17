-- Quotients and fields: the quotient is the only one, and a field that was laid in is read again.
use Rattle.std.proofs.Common.{◌≡◌, ℕ, ◌+◌, ◌-◌, ◌*◌, ◌^◌, ◌<◌, ◌≤◌, sym, ◌∙◌, ap, arith}
use Rattle.std.specs.Prelude.{ℤ, pos, negsuc}
use Rattle.std.proofs.lemmas.Int.{ints}
use Rattle.std.proofs.lemmas.Nat.{same_from_place, pow_pos, pow-add, shr-shr, mul-add-lt}
use borrow.Author.Differences.{up, down}
use Rattle.lx_num.specs.Ints.{modulo, floor_div, field_of}
use Rattle.lx_num.specs.Fields.{with_field_of}
use Rattle.lx_num.proofs.Ints.{floor_rule, modulo_is, modulo-below}

-- the quotient that leaves a rest below m is the only one
pub floor_div_is : (z q : ℤ) (m r : ℕ) → r < m → up z + down q * m ≡ down z + up q * m + r → floor_div z m ≡ q
floor_div_is z q m r h e =
    let p : 0 < m = omega arith in
    let s : (up (floor_div z m) + down q) ≡ (down (floor_div z m) + up q) =
    (same_from_place (up (floor_div z m) + down q) (modulo z m) (down (floor_div z m) + up q) r m (modulo-below z m p) h (omega (arith, floor_rule z m p))).0 in
    omega (arith, ints, s)

pub floor_div-floor_div : (z : ℤ) (j k : ℕ) → floor_div (floor_div z (2 ^ j)) (2 ^ k) ≡ floor_div z (2 ^ (j + k))
floor_div-floor_div (pos a) j k = ap pos (shr-shr a j k)
floor_div-floor_div (negsuc a) j k = ap negsuc (shr-shr a j k)

laid_rule : (z x : ℤ) (low len : ℕ) →
    up (with_field_of z low len x) + down (floor_div z (2 ^ (low + len))) * 2 ^ (low + len)
    ≡ down (with_field_of z low len x) + up (floor_div z (2 ^ (low + len))) * 2 ^ (low + len) + (modulo x (2 ^ len) * 2 ^ low + modulo z (2 ^ low))
laid_rule z x low len = omega (arith, ints)

laid_below : (z x : ℤ) (low len : ℕ) → modulo x (2 ^ len) * 2 ^ low + modulo z (2 ^ low) < 2 ^ (low + len)
laid_below z x low len =
    omega (arith, mul-add-lt (modulo x (2 ^ len)) (2 ^ low) (modulo z (2 ^ low)) (2 ^ len) (modulo-below x (2 ^ len) (pow_pos len)) (modulo-below z (2 ^ low) (pow_pos low)), pow-add 2 low len)

-- the low part of the laid number, with its quotient
pub floor_div-laid : (z x : ℤ) (low len : ℕ) → floor_div (with_field_of z low len x) (2 ^ (low + len)) ≡ floor_div z (2 ^ (low + len))
floor_div-laid z x low len =
    floor_div_is (with_field_of z low len x) (floor_div z (2 ^ (low + len))) (2 ^ (low + len)) (modulo x (2 ^ len) * 2 ^ low + modulo z (2 ^ low)) (laid_below z x low len) (laid_rule z x low len)

laid_in_units : (z x : ℤ) (low len : ℕ) →
    up (with_field_of z low len x) + down (floor_div z (2 ^ (low + len))) * 2 ^ len * 2 ^ low
    ≡ down (with_field_of z low len x) + (up (floor_div z (2 ^ (low + len))) * 2 ^ len + modulo x (2 ^ len)) * 2 ^ low + modulo z (2 ^ low)
laid_in_units z x low len =
    let e = laid_rule z x low len in
    let p = ap (λ (k : ℕ). up (floor_div z (2 ^ (low + len))) * k) (pow-add 2 low len) in
    let q = ap (λ (k : ℕ). down (floor_div z (2 ^ (low + len))) * k) (pow-add 2 low len) in
    omega arith

pub modulo-laid : (z x : ℤ) (low len : ℕ) → modulo (with_field_of z low len x) (2 ^ low) ≡ modulo z (2 ^ low)
modulo-laid z x low len =
    modulo_is (with_field_of z low len x) (2 ^ low) (down (floor_div z (2 ^ (low + len))) * 2 ^ len) (up (floor_div z (2 ^ (low + len))) * 2 ^ len + modulo x (2 ^ len)) (modulo z (2 ^ low))
    (modulo-below z (2 ^ low) (pow_pos low)) (laid_in_units z x low len)

pub field_of-laid : (z x : ℤ) (low len : ℕ) → field_of (with_field_of z low len x) low len ≡ modulo x (2 ^ len)
field_of-laid z x low len =
    let d = floor_div (with_field_of z low len x) (2 ^ low) in
    let q = floor_div z (2 ^ (low + len)) in
    let s : (up d + down q * 2 ^ len) ≡ (down d + (up q * 2 ^ len + modulo x (2 ^ len))) =
    (same_from_place (up d + down q * 2 ^ len) (modulo (with_field_of z low len x) (2 ^ low)) (down d + (up q * 2 ^ len + modulo x (2 ^ len))) (modulo z (2 ^ low)) (2 ^ low)
    (modulo-below (with_field_of z low len x) (2 ^ low) (pow_pos low)) (modulo-below z (2 ^ low) (pow_pos low))
    (omega (arith, laid_in_units z x low len, floor_rule (with_field_of z low len x) (2 ^ low) (pow_pos low)))).0 in
    modulo_is d (2 ^ len) (down q) (up q) (modulo x (2 ^ len)) (modulo-below x (2 ^ len) (pow_pos len)) (omega (arith, s))

pub field_of-above_laid : (z x : ℤ) (low len i n : ℕ) → low + len ≤ i → field_of (with_field_of z low len x) i n ≡ field_of z i n
field_of-above_laid z x low len i n h =
    let k : (low + len) + (i - (low + len)) ≡ i = omega arith in
    let up_to : (y : ℤ) → floor_div y (2 ^ i) ≡ floor_div (floor_div y (2 ^ (low + len))) (2 ^ (i - (low + len))) =
    λ y. ap (λ (j : ℕ). floor_div y (2 ^ j)) (sym k) ∙ sym (floor_div-floor_div y (low + len) (i - (low + len))) in
    ap (λ (y : ℤ). modulo y (2 ^ n))
    (up_to (with_field_of z low len x) ∙ ap (λ (y : ℤ). floor_div y (2 ^ (i - (low + len)))) (floor_div-laid z x low len) ∙ sym (up_to z))
