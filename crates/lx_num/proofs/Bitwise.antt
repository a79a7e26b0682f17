-- Bitwise operators on whole numbers, bit by bit: the pattern of the answer is the operator of the patterns.
use Rattle.std.proofs.Common.{◌≡◌, ℕ, ◌+◌, ◌-◌, ◌/◌, ◌%◌, ◌^◌, ◌<◌, refl, sym, ◌∙◌, ap, arith}
use Rattle.std.specs.Prelude.{ℤ, pos, negsuc, bit_and, bit_or, bit_xor}
use Rattle.std.specs.Int.Bits.{or_add_and, xor_add_and}
use Rattle.std.proofs.lemmas.Nat.{pow_pos, mod_below, and_mod, or_mod, xor_mod, and-not, and_comm, and_le_l, and_le_r, xor_comm, xor_lt}
use Rattle.lx_num.specs.Ints.{modulo}
use Rattle.lx_num.specs.Bits.{int_not, int_and, int_or, int_xor}
use Rattle.lx_num.proofs.Ints.{modulo_is, modulo-below, modulo-int_not}

-- the bits of x that are not in y
pub and-flipped : (w x y : ℕ) → x < 2 ^ w → y < 2 ^ w → bit_and x (2 ^ w - 1 - y) + bit_and x y ≡ x
and-flipped w x y p q =
    omega (arith, and-not w y x q p, and_comm x (2 ^ w - 1 - y), and_comm x y)

pub and-both_flipped : (w x y : ℕ) → x < 2 ^ w → y < 2 ^ w → bit_and (2 ^ w - 1 - x) (2 ^ w - 1 - y) ≡ 2 ^ w - 1 - bit_or x y
and-both_flipped w x y p q =
    let r : 2 ^ w - 1 - y < 2 ^ w = omega (arith, pow_pos w) in
    omega (arith, and-not w x (2 ^ w - 1 - y) p r, and-flipped w x y p q, or_add_and x y, and_le_l x y, and_le_r x y)

pub xor-flipped : (w x y : ℕ) → x < 2 ^ w → y < 2 ^ w → bit_xor x (2 ^ w - 1 - y) ≡ 2 ^ w - 1 - bit_xor x y
xor-flipped w x y p q =
    omega (arith, xor_add_and x (2 ^ w - 1 - y), xor_add_and x y, and-flipped w x y p q, and_le_l x y, and_le_r x y)

left_over : (w a b : ℕ) → (a - bit_and a b) % 2 ^ w ≡ bit_and (a % 2 ^ w) (2 ^ w - 1 - b % 2 ^ w)
left_over w a b =
    let p : a % 2 ^ w < 2 ^ w = mod_below a (2 ^ w) (pow_pos w) in
    let q : b % 2 ^ w < 2 ^ w = mod_below b (2 ^ w) (pow_pos w) in
    let e = and-flipped w (a % 2 ^ w) (b % 2 ^ w) p q in
    modulo_is (pos (a - bit_and a b)) (2 ^ w) (bit_and a b / 2 ^ w) (a / 2 ^ w) (bit_and (a % 2 ^ w) (2 ^ w - 1 - b % 2 ^ w))
    (omega (arith, e))
    (omega (arith, e, and_mod a b w, and_le_l a b, pow_pos w))

pub modulo-int_and : (x y : ℤ) (w : ℕ) → modulo (int_and x y) (2 ^ w) ≡ bit_and (modulo x (2 ^ w)) (modulo y (2 ^ w))
modulo-int_and (pos a) (pos b) w = and_mod a b w
modulo-int_and (pos a) (negsuc b) w = left_over w a b
modulo-int_and (negsuc a) (pos b) w =
    ap (λ (k : ℕ). (b - k) % 2 ^ w) (and_comm a b) ∙ left_over w b a ∙ and_comm (b % 2 ^ w) (2 ^ w - 1 - a % 2 ^ w)
modulo-int_and (negsuc a) (negsuc b) w =
    ap (λ (k : ℕ). 2 ^ w - 1 - k) (or_mod a b w) ∙ sym (and-both_flipped w (a % 2 ^ w) (b % 2 ^ w) (mod_below a (2 ^ w) (pow_pos w)) (mod_below b (2 ^ w) (pow_pos w)))

-- or is and, seen through not
or_by_and : (x y : ℤ) → int_or x y ≡ int_not (int_and (int_not x) (int_not y))
or_by_and (pos a) (pos b) = refl
or_by_and (pos a) (negsuc b) = refl
or_by_and (negsuc a) (pos b) = refl
or_by_and (negsuc a) (negsuc b) = refl

or_from_and : (w x y : ℕ) → x < 2 ^ w → y < 2 ^ w → 2 ^ w - 1 - bit_and (2 ^ w - 1 - x) (2 ^ w - 1 - y) ≡ bit_or x y
or_from_and w x y p q =
    let r : 2 ^ w - 1 - y < 2 ^ w = omega (arith, pow_pos w) in
    omega (arith, and-not w x (2 ^ w - 1 - y) p r, and-flipped w x y p q, or_add_and x y, and_le_l x y, and_le_r x y)

pub modulo-int_or : (x y : ℤ) (w : ℕ) → modulo (int_or x y) (2 ^ w) ≡ bit_or (modulo x (2 ^ w)) (modulo y (2 ^ w))
modulo-int_or x y w =
    ap (λ (z : ℤ). modulo z (2 ^ w)) (or_by_and x y)
    ∙ modulo-int_not (int_and (int_not x) (int_not y)) (2 ^ w) (pow_pos w)
    ∙ ap (λ (k : ℕ). 2 ^ w - 1 - k) (modulo-int_and (int_not x) (int_not y) w)
    ∙ ap (λ (k : ℕ). 2 ^ w - 1 - bit_and k (modulo (int_not y) (2 ^ w))) (modulo-int_not x (2 ^ w) (pow_pos w))
    ∙ ap (λ (k : ℕ). 2 ^ w - 1 - bit_and (2 ^ w - 1 - modulo x (2 ^ w)) k) (modulo-int_not y (2 ^ w) (pow_pos w))
    ∙ or_from_and w (modulo x (2 ^ w)) (modulo y (2 ^ w)) (modulo-below x (2 ^ w) (pow_pos w)) (modulo-below y (2 ^ w) (pow_pos w))

xor_apart : (w a b : ℕ) → 2 ^ w - 1 - bit_xor a b % 2 ^ w ≡ bit_xor (a % 2 ^ w) (2 ^ w - 1 - b % 2 ^ w)
xor_apart w a b =
    ap (λ (k : ℕ). 2 ^ w - 1 - k) (xor_mod a b w) ∙ sym (xor-flipped w (a % 2 ^ w) (b % 2 ^ w) (mod_below a (2 ^ w) (pow_pos w)) (mod_below b (2 ^ w) (pow_pos w)))

xor_both : (w x y : ℕ) → x < 2 ^ w → y < 2 ^ w → bit_xor x y ≡ bit_xor (2 ^ w - 1 - x) (2 ^ w - 1 - y)
xor_both w x y p q =
    let r : 2 ^ w - 1 - x < 2 ^ w = omega (arith, pow_pos w) in
    let s : bit_xor x y < 2 ^ w = xor_lt w x y p q in
    let e = xor-flipped w (2 ^ w - 1 - x) y r q in
    let f = xor_comm (2 ^ w - 1 - x) y in
    let g = xor-flipped w y x q p in
    let h = xor_comm x y in
    omega arith

pub modulo-int_xor : (x y : ℤ) (w : ℕ) → modulo (int_xor x y) (2 ^ w) ≡ bit_xor (modulo x (2 ^ w)) (modulo y (2 ^ w))
modulo-int_xor (pos a) (pos b) w = xor_mod a b w
modulo-int_xor (pos a) (negsuc b) w = xor_apart w a b
modulo-int_xor (negsuc a) (pos b) w =
    ap (λ (k : ℕ). 2 ^ w - 1 - k % 2 ^ w) (xor_comm a b) ∙ xor_apart w b a ∙ xor_comm (b % 2 ^ w) (2 ^ w - 1 - a % 2 ^ w)
modulo-int_xor (negsuc a) (negsuc b) w =
    xor_mod a b w ∙ xor_both w (a % 2 ^ w) (b % 2 ^ w) (mod_below a (2 ^ w) (pow_pos w)) (mod_below b (2 ^ w) (pow_pos w))
