-- Values of n bits: their bounds as naturals, and the passage between a value and its pattern.
use Rattle.std.proofs.Common.{◌≡◌, ℕ, ◌+◌, ◌-◌, ◌%◌, ◌^◌, ◌<◌, ◌≤◌, Bool, true, false, sym, ◌∙◌, ap, subst, arith}
use Rattle.std.specs.Prelude.{ℤ, pos, negsuc, nat_le, ◌-ℤ◌}
use Rattle.std.proofs.Math.Nat.{pow-le-pow_right, mod-eq_of_lt}
use Rattle.std.proofs.lemmas.Bool.{cond-true, cond-false, cond_both, le-leb, lt-leb, leb-true, leb-false}
use Rattle.std.proofs.lemmas.Int.{ints}
use Rattle.std.proofs.lemmas.Nat.{pow_pos}
use borrow.Author.Differences.{up, down}
use Rattle.lx_num.specs.Ints.{modulo, FitsBits, read_bits, wrap_bits}
use Rattle.lx_num.proofs.Ints.{modulo_is, modulo-below, halves}

pub fits_unsigned : (n : ℕ) (z : ℤ) → down z ≤ up z → up z < down z + 2 ^ n → FitsBits n false z
fits_unsigned n z p q = record { low = omega (arith, ints); high = omega (arith, ints) }

pub unsigned_fits : (n : ℕ) (z : ℤ) → FitsBits n false z → (down z ≤ up z) × (up z < down z + 2 ^ n)
unsigned_fits n z f = (omega (arith, ints, f.low), omega (arith, ints, f.high))

pub fits_signed : (n : ℕ) (z : ℤ) → down z ≤ up z + 2 ^ (n - 1) → up z < down z + 2 ^ (n - 1) → FitsBits n true z
fits_signed n z p q = record { low = omega (arith, ints); high = omega (arith, ints) }

pub signed_fits : (n : ℕ) (z : ℤ) → FitsBits n true z → (down z ≤ up z + 2 ^ (n - 1)) × (up z < down z + 2 ^ (n - 1))
signed_fits n z f = (omega (arith, ints, f.low), omega (arith, ints, f.high))

-- a number below 2 ^ n is an unsigned value of n bits
pub fits_pos : (n a : ℕ) → a < 2 ^ n → FitsBits n false (pos a)
fits_pos n a h = fits_unsigned n (pos a) (omega arith) (omega arith)

pub pos_fits : (n a : ℕ) → FitsBits n false (pos a) → a < 2 ^ n
pos_fits n a f = omega (arith, (unsigned_fits n (pos a) f).1)

pub negative_fits : (n a : ℕ) → FitsBits n true (negsuc a) → a < 2 ^ (n - 1)
negative_fits n a f = omega (arith, (signed_fits n (negsuc a) f).0)

-- a value of n bits is one of more bits
pub fits_wider : (n m : ℕ) (s : Bool) (z : ℤ) → n ≤ m → FitsBits n s z → FitsBits m s z
fits_wider n m true z h f =
    let k : n - 1 ≤ m - 1 = omega arith in
    let two : 0 < 2 = omega arith in
    let e = signed_fits n z f in
    let p = pow-le-pow_right two k in
    fits_signed m z (omega arith) (omega arith)
fits_wider n m false z h f =
    let two : 0 < 2 = omega arith in
    let e = unsigned_fits n z f in
    let p = pow-le-pow_right two h in
    fits_unsigned m z (omega arith) (omega arith)

-- an unsigned value of n bits is a signed one of n + 1 bits
pub fits_as_signed : (n : ℕ) (z : ℤ) → FitsBits n false z → FitsBits (n + 1) true z
fits_as_signed n z f =
    let e = unsigned_fits n z f in
    let p : 2 ^ (n + 1 - 1) ≡ 2 ^ n = ap (λ (k : ℕ). 2 ^ k) (omega arith) in
    fits_signed (n + 1) z (omega arith) (omega arith)

-- the pattern of a signed value
signed_pattern : (n : ℕ) (z : ℤ) → 1 ≤ n → FitsBits n true z → read_bits n true (modulo z (2 ^ n)) ≡ z
signed_pattern n (pos a) h f =
    let e = signed_fits n (pos a) f in
    let t = halves n h in
    let p : a < 2 ^ n = omega arith in
    let q : a < 2 ^ (n - 1) = omega arith in
    ap (read_bits n true) (mod-eq_of_lt p) ∙ cond-false (nat_le (2 ^ (n - 1)) a) (pos a -ℤ pos (2 ^ n)) (pos a) (lt-leb (2 ^ (n - 1)) a q)
signed_pattern n (negsuc a) h f =
    let e = negative_fits n a f in
    let t = halves n h in
    let p : a < 2 ^ n = omega arith in
    let r : 2 ^ n - 1 - a % 2 ^ n ≡ 2 ^ n - 1 - a = ap (λ (k : ℕ). 2 ^ n - 1 - k) (mod-eq_of_lt p) in
    let q : 2 ^ (n - 1) ≤ 2 ^ n - 1 - a = omega arith in
    ap (read_bits n true) r
    ∙ cond-true (nat_le (2 ^ (n - 1)) (2 ^ n - 1 - a)) (pos (2 ^ n - 1 - a) -ℤ pos (2 ^ n)) (pos (2 ^ n - 1 - a)) (le-leb (2 ^ (n - 1)) (2 ^ n - 1 - a) q)
    ∙ omega (arith, ints)

unsigned_pattern : (n : ℕ) (z : ℤ) → FitsBits n false z → pos (modulo z (2 ^ n)) ≡ z
unsigned_pattern n (pos a) f = ap pos (mod-eq_of_lt (pos_fits n a f))
unsigned_pattern n (negsuc a) f = absurd (omega (arith, (unsigned_fits n (negsuc a) f).0))

-- a value is what its pattern stands for
pub read_bits-modulo : (n : ℕ) (s : Bool) (z : ℤ) → 1 ≤ n → FitsBits n s z → read_bits n s (modulo z (2 ^ n)) ≡ z
read_bits-modulo n true z h f = signed_pattern n z h f
read_bits-modulo n false z h f = unsigned_pattern n z f

-- each pattern of n bits stands for a value of n bits
pub FitsBits-read_bits : (n : ℕ) (s : Bool) (p : ℕ) → 1 ≤ n → p < 2 ^ n → FitsBits n s (read_bits n s p)
FitsBits-read_bits n true p h q =
    let t = halves n h in
    cond_both (nat_le (2 ^ (n - 1)) p) (pos p -ℤ pos (2 ^ n)) (pos p) (λ z. FitsBits n true z)
    (λ e. fits_signed n (pos p -ℤ pos (2 ^ n)) (omega (arith, ints, leb-true (2 ^ (n - 1)) p e)) (omega (arith, ints)))
    (λ e. fits_signed n (pos p) (omega arith) (omega (arith, leb-false (2 ^ (n - 1)) p e)))
FitsBits-read_bits n false p h q = fits_pos n p q

-- and has this value's pattern
pub modulo-read_bits : (n : ℕ) (s : Bool) (p : ℕ) → p < 2 ^ n → modulo (read_bits n s p) (2 ^ n) ≡ p
modulo-read_bits n true p q =
    cond_both (nat_le (2 ^ (n - 1)) p) (pos p -ℤ pos (2 ^ n)) (pos p) (λ z. modulo z (2 ^ n) ≡ p)
    (λ e. modulo_is (pos p -ℤ pos (2 ^ n)) (2 ^ n) 1 0 p q (omega (arith, ints)))
    (λ e. mod-eq_of_lt q)
modulo-read_bits n false p q = mod-eq_of_lt q

pub FitsBits-wrap_bits : (n : ℕ) (s : Bool) (z : ℤ) → 1 ≤ n → FitsBits n s (wrap_bits n s z)
FitsBits-wrap_bits n s z h = FitsBits-read_bits n s (modulo z (2 ^ n)) h (modulo-below z (2 ^ n) (pow_pos n))

pub modulo-wrap_bits : (n : ℕ) (s : Bool) (z : ℤ) → modulo (wrap_bits n s z) (2 ^ n) ≡ modulo z (2 ^ n)
modulo-wrap_bits n s z = modulo-read_bits n s (modulo z (2 ^ n)) (modulo-below z (2 ^ n) (pow_pos n))

-- the wrapped value is the only value of n bits that is congruent
pub wrap_bits_only : (n : ℕ) (s : Bool) (z y : ℤ) → 1 ≤ n → FitsBits n s y → modulo y (2 ^ n) ≡ modulo z (2 ^ n) → y ≡ wrap_bits n s z
wrap_bits_only n s z y h f e = sym (read_bits-modulo n s y h f) ∙ ap (read_bits n s) e

-- a value is wrapped to itself
pub wrap_bits_same : (n : ℕ) (s : Bool) (z : ℤ) → 1 ≤ n → FitsBits n s z → wrap_bits n s z ≡ z
wrap_bits_same n s z h f = read_bits-modulo n s z h f

-- and what is wrapped to itself is a value
pub same_fits : (n : ℕ) (s : Bool) (z : ℤ) → 1 ≤ n → wrap_bits n s z ≡ z → FitsBits n s z
same_fits n s z h e = let P : ℤ → Type 0 = λ y. FitsBits n s y in subst P e (FitsBits-wrap_bits n s z h)

-- two values of n bits with one pattern are one
pub same_pattern : (n : ℕ) (s : Bool) (x y : ℤ) → 1 ≤ n → FitsBits n s x → FitsBits n s y → modulo x (2 ^ n) ≡ modulo y (2 ^ n) → x ≡ y
same_pattern n s x y h f g e = wrap_bits_only n s y x h f e ∙ wrap_bits_same n s y h g

-- bounds of any value of n bits, whatever its sign
pub fits_magnitude : (n : ℕ) (s : Bool) (z : ℤ) → 1 ≤ n → FitsBits n s z → (up z < down z + 2 ^ n) × (down z ≤ up z + 2 ^ (n - 1))
fits_magnitude n true z h f = let e = signed_fits n z f in let t = halves n h in (omega (arith, pow_pos (n - 1)), omega arith)
fits_magnitude n false z h f = let e = unsigned_fits n z f in (omega arith, omega arith)
