-- Whole numbers modulo m: what `modulo` is, and how it meets sums, differences, products and wider moduli.
use Rattle.std.proofs.Common.{◌≡◌, ℕ, ◌+◌, ◌-◌, ◌*◌, ◌%◌, ◌^◌, ◌<◌, ◌≤◌, refl, ◌∙◌, ap, arith}
use Rattle.std.specs.Prelude.{ℤ, pos, negsuc, ◌+ℤ◌, ◌-ℤ◌, ◌*ℤ◌}
use Rattle.std.proofs.Common.{neg_ℤ}
use Rattle.std.proofs.Math.Nat.{two-pow-succ, mod-eq_of_lt}
use Rattle.std.proofs.lemmas.Int.{ints}
use Rattle.std.proofs.lemmas.Nat.{same_from_place, pow_pos, pow-add, mod_below}
use borrow.Author.Differences.{up, down}
use Rattle.lx_num.specs.Ints.{modulo, floor_div}
use Rattle.lx_num.specs.Bits.{int_not}

-- z is its quotient times m and its rest
pub floor_rule : (z : ℤ) (m : ℕ) → 0 < m → up z + down (floor_div z m) * m ≡ down z + up (floor_div z m) * m + modulo z m
floor_rule (pos a) m h = omega arith
floor_rule (negsuc a) m h = omega arith

pub modulo-below : (z : ℤ) (m : ℕ) → 0 < m → modulo z m < m
modulo-below (pos a) m h = mod_below a m h
modulo-below (negsuc a) m h = omega arith

-- the rest below m is the only one
pub modulo_is : (z : ℤ) (m j k r : ℕ) → r < m → up z + j * m ≡ down z + k * m + r → modulo z m ≡ r
modulo_is z m j k r h e =
    let p : 0 < m = omega arith in
    (same_from_place (up (floor_div z m) + j) (modulo z m) (down (floor_div z m) + k) r m (modulo-below z m p) h (omega (arith, floor_rule z m p))).1

-- numbers that differ by a multiple of m
pub modulo_same : (x y : ℤ) (m j k : ℕ) → 0 < m → up x + down y + j * m ≡ up y + down x + k * m → modulo x m ≡ modulo y m
modulo_same x y m j k p e =
    modulo_is x m (j + down (floor_div y m)) (k + up (floor_div y m)) (modulo y m) (modulo-below y m p) (omega (arith, floor_rule y m p))

pub modulo-add : (x y : ℤ) (m : ℕ) → 0 < m → modulo (x +ℤ y) m ≡ (modulo x m + modulo y m) % m
modulo-add x y m p =
    modulo_same (x +ℤ y) (pos (modulo x m + modulo y m)) m (down (floor_div x m) + down (floor_div y m)) (up (floor_div x m) + up (floor_div y m)) p (omega (arith, ints, floor_rule x m p, floor_rule y m p))

pub modulo-sub : (x y : ℤ) (m : ℕ) → 0 < m → modulo (x -ℤ y) m ≡ (modulo x m + (m - modulo y m)) % m
modulo-sub x y m p =
    let q : modulo y m < m = modulo-below y m p in
    modulo_same (x -ℤ y) (pos (modulo x m + (m - modulo y m))) m (down (floor_div x m) + up (floor_div y m) + 1) (up (floor_div x m) + down (floor_div y m)) p (omega (arith, ints, floor_rule x m p, floor_rule y m p))

pub modulo-neg : (x : ℤ) (m : ℕ) → 0 < m → modulo (neg_ℤ x) m ≡ (m - modulo x m) % m
modulo-neg x m p =
    let q : modulo x m < m = modulo-below x m p in
    modulo_same (neg_ℤ x) (pos (m - modulo x m)) m (up (floor_div x m) + 1) (down (floor_div x m)) p (omega (arith, ints, floor_rule x m p))

pub modulo-mul : (x y : ℤ) (m : ℕ) → 0 < m → modulo (x *ℤ y) m ≡ (modulo x m * modulo y m) % m
modulo-mul x y m p =
    let e = floor_rule x m p in
    modulo_same (x *ℤ y) (pos (modulo x m * modulo y m)) m
    (down (floor_div x m) * up y + up (floor_div x m) * down y + modulo x m * down (floor_div y m))
    (up (floor_div x m) * up y + down (floor_div x m) * down y + modulo x m * up (floor_div y m))
    p
    (omega (arith, ints, ap (λ (n : ℕ). n * up y) e, ap (λ (n : ℕ). n * down y) e, ap (λ (n : ℕ). modulo x m * n) (floor_rule y m p)))

pub modulo-int_not : (x : ℤ) (m : ℕ) → 0 < m → modulo (int_not x) m ≡ m - 1 - modulo x m
modulo-int_not (pos a) m p = refl
modulo-int_not (negsuc a) m p = omega (arith, mod_below a m p)

-- 2 ^ n is twice the half
pub halves : (n : ℕ) → 1 ≤ n → 2 ^ n ≡ 2 ^ (n - 1) + 2 ^ (n - 1)
halves n h = ap (λ (k : ℕ). 2 ^ k) (omega arith) ∙ two-pow-succ (n - 1)

pub pow_split : (n w : ℕ) → n ≤ w → 2 ^ w ≡ 2 ^ (w - n) * 2 ^ n
pow_split n w h = ap (λ (k : ℕ). 2 ^ k) (omega arith) ∙ pow-add 2 (w - n) n

-- fewer bits of a pattern are a pattern of fewer bits
pub modulo-modulo : (z : ℤ) (n w : ℕ) → n ≤ w → modulo z (2 ^ w) % 2 ^ n ≡ modulo z (2 ^ n)
modulo-modulo z n w h =
    let e = floor_rule z (2 ^ w) (pow_pos w) in
    let s = pow_split n w h in
    modulo_same (pos (modulo z (2 ^ w))) z (2 ^ n) (up (floor_div z (2 ^ w)) * 2 ^ (w - n)) (down (floor_div z (2 ^ w)) * 2 ^ (w - n)) (pow_pos n)
    (omega (arith, ints, e, ap (λ (k : ℕ). up (floor_div z (2 ^ w)) * k) s, ap (λ (k : ℕ). down (floor_div z (2 ^ w)) * k) s))

-- a natural number below m is its own rest
pub modulo-small : (a m : ℕ) → a < m → modulo (pos a) m ≡ a
modulo-small a m h = mod-eq_of_lt h

-- modulo 1 nothing is left
pub modulo_one : (z : ℤ) → modulo z 1 ≡ 0
modulo_one z = omega (arith, modulo-below z 1 (omega arith))
