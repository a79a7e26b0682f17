-- The values of operators fit their shapes.
use Rattle.std.proofs.Common.{◌≡◌, ℕ, ◌+◌, ◌-◌, ◌*◌, ◌/◌, ◌^◌, ◌<◌, ◌≤◌, Bool, true, false, ◌||◌, refl, ◌∙◌, ap, arith, neg_ℤ}
use Rattle.std.specs.Prelude.{ℤ, pos, negsuc, ◌+ℤ◌, ◌-ℤ◌, ◌*ℤ◌, bit_and, bit_or, bit_xor}
use Rattle.std.specs.Int.RustNames.{unsigned_abs}
use Rattle.std.proofs.Math.Nat.{pow-le-pow_right, two-pow-succ}
use Rattle.std.proofs.lemmas.Bool.{false≢true, cond_both, or_left, or_right}
use Rattle.std.proofs.lemmas.Int.{ints, unsigned_abs-mul}
use Rattle.std.proofs.lemmas.Nat.{pow_pos, pow_below, pow-add, mul-le, mul-lt, shl_below, shr_le, or_lt, xor_lt, and_le_l}
use borrow.Author.Differences.{up, down}
use Rattle.lx_num.specs.declared.Shape.{Shape}
use Rattle.lx_num.specs.Ints.{modulo, floor_div, FitsBits, Fits, unsigned, field_of}
use Rattle.lx_num.specs.Bits.{int_not, int_and, int_or, int_xor}
use Rattle.lx_num.specs.Fewest.{magnitude_of}
use Rattle.lx_num.proofs.Ints.{modulo-below, halves}
use Rattle.lx_num.proofs.Ranges.{fits_unsigned, unsigned_fits, fits_signed, signed_fits, fits_pos, pos_fits, negative_fits, fits_wider, fits_as_signed}
use Rattle.lx_circuit.specs.Shapes.{extra, joined_bits, joined}
use Rattle.lx_circuit.specs.Values.{flag, count_of, is_zero, mux_value, copies, replicate_value}
use Rattle.lx_circuit.proofs.Values.{copies_below}

-- a signed value by its magnitude
pub fits_from_magnitude : (n : ℕ) (z : ℤ) → magnitude_of z < 2 ^ (n - 1) → FitsBits n true z
fits_from_magnitude n (pos a) h = fits_signed n (pos a) (omega arith) (omega arith)
fits_from_magnitude n (negsuc a) h = fits_signed n (negsuc a) (omega arith) (omega arith)

pub magnitude_fits : (n : ℕ) (z : ℤ) → FitsBits n true z → magnitude_of z < 2 ^ (n - 1)
magnitude_fits n (pos a) f = omega (arith, signed_fits n (pos a) f)
magnitude_fits n (negsuc a) f = negative_fits n a f

-- an operand that is joined with others
pub fits_joined : (n : ℕ) (s some : Bool) (z : ℤ) → (s ≡ true → some ≡ true) → FitsBits n s z → FitsBits (n + extra s some) some z
fits_joined n false false z h f = fits_wider n (n + 0) false z (omega arith) f
fits_joined n false true z h f = fits_as_signed n z f
fits_joined n true true z h f = fits_wider n (n + 0) true z (omega arith) f
fits_joined n true false z h f = absurd (false≢true (h refl))

pub fits_left : (a b : Shape) (x : ℤ) → Fits a x → Fits (joined a b) x
fits_left a b x f =
    fits_wider (joined_bits (a.signed || b.signed) a) (joined a b).bits (a.signed || b.signed) x (omega arith)
    (fits_joined a.bits a.signed (a.signed || b.signed) x (or_left a.signed b.signed) f)

pub fits_right : (a b : Shape) (y : ℤ) → Fits b y → Fits (joined a b) y
fits_right a b y f =
    fits_wider (joined_bits (a.signed || b.signed) b) (joined a b).bits (a.signed || b.signed) y (omega arith)
    (fits_joined b.bits b.signed (a.signed || b.signed) y (or_right a.signed b.signed) f)

last_power : (m : ℕ) → 2 ^ (m + 1 - 1) ≡ 2 ^ m
last_power m = ap (λ (k : ℕ). 2 ^ k) (omega arith)

next_power : (m : ℕ) → 2 ^ (m + 1) ≡ 2 ^ m + 2 ^ m
next_power m = ap (λ (k : ℕ). 2 ^ k) (omega arith) ∙ two-pow-succ m

pub fits_sum : (m : ℕ) (s : Bool) (x y : ℤ) → 1 ≤ m → FitsBits m s x → FitsBits m s y → FitsBits (m + 1) s (x +ℤ y)
fits_sum m true x y h f g =
    let p = signed_fits m x f in
    let q = signed_fits m y g in
    let t = halves m h in
    let e = last_power m in
    fits_signed (m + 1) (x +ℤ y) (omega (arith, ints)) (omega (arith, ints))
fits_sum m false x y h f g =
    let p = unsigned_fits m x f in
    let q = unsigned_fits m y g in
    let e = next_power m in
    fits_unsigned (m + 1) (x +ℤ y) (omega (arith, ints)) (omega (arith, ints))

pub fits_difference : (m : ℕ) (s : Bool) (x y : ℤ) → 1 ≤ m → FitsBits m s x → FitsBits m s y → FitsBits (m + 1) true (x -ℤ y)
fits_difference m true x y h f g =
    let p = signed_fits m x f in
    let q = signed_fits m y g in
    let t = halves m h in
    let e = last_power m in
    fits_signed (m + 1) (x -ℤ y) (omega (arith, ints)) (omega (arith, ints))
fits_difference m false x y h f g =
    let p = unsigned_fits m x f in
    let q = unsigned_fits m y g in
    let e = last_power m in
    fits_signed (m + 1) (x -ℤ y) (omega (arith, ints)) (omega (arith, ints))

pub fits_negation : (m : ℕ) (s : Bool) (x : ℤ) → 1 ≤ m → FitsBits m s x → FitsBits (m + 1) true (neg_ℤ x)
fits_negation m true x h f =
    let p = signed_fits m x f in
    let t = halves m h in
    let e = last_power m in
    let o = pow_pos (m - 1) in
    fits_signed (m + 1) (neg_ℤ x) (omega (arith, ints)) (omega (arith, ints))
fits_negation m false x h f =
    let p = unsigned_fits m x f in
    let e = last_power m in
    let o = pow_pos m in
    fits_signed (m + 1) (neg_ℤ x) (omega (arith, ints)) (omega (arith, ints))

abs_bound : (n : ℕ) (z : ℤ) → FitsBits n true z → unsigned_abs z ≤ 2 ^ (n - 1)
abs_bound n (pos a) f = omega (arith, signed_fits n (pos a) f)
abs_bound n (negsuc a) f = omega (arith, negative_fits n a f)

fits_from_abs : (n : ℕ) (z : ℤ) → unsigned_abs z < 2 ^ (n - 1) → FitsBits n true z
fits_from_abs n (pos a) h = fits_signed n (pos a) (omega arith) (omega arith)
fits_from_abs n (negsuc a) h = fits_signed n (negsuc a) (omega arith) (omega arith)

pub fits_product : (n m : ℕ) (s : Bool) (x y : ℤ) → 1 ≤ n → 1 ≤ m → FitsBits n s x → FitsBits m s y → FitsBits (n + m) s (x *ℤ y)
fits_product n m true x y h k f g =
    let p = mul-le (unsigned_abs x) (unsigned_abs y) (2 ^ (n - 1)) (2 ^ (m - 1)) (abs_bound n x f) (abs_bound m y g) in
    let e = pow-add 2 (n - 1) (m - 1) in
    let two : 0 < 2 = omega arith in
    let less : n - 1 + (m - 1) < n + m - 1 = omega arith in
    let q = pow_below (n - 1 + (m - 1)) (n + m - 1) less in
    fits_from_abs (n + m) (x *ℤ y) (omega (arith, unsigned_abs-mul x y))
fits_product n m false (pos a) (pos b) h k f g =
    fits_pos (n + m) (a * b) (omega (arith, mul-lt a b (2 ^ n) (2 ^ m) (pos_fits n a f) (pos_fits m b g), pow-add 2 n m))
fits_product n m false (negsuc a) y h k f g = absurd (omega (arith, unsigned_fits n (negsuc a) f))
fits_product n m false (pos a) (negsuc b) h k f g = absurd (omega (arith, unsigned_fits m (negsuc b) g))

-- bitwise operators
and_magnitude : (k : ℕ) (x y : ℤ) → magnitude_of x < 2 ^ k → magnitude_of y < 2 ^ k → magnitude_of (int_and x y) < 2 ^ k
and_magnitude k (pos a) (pos b) p q = omega (arith, and_le_l a b)
and_magnitude k (pos a) (negsuc b) p q = omega arith
and_magnitude k (negsuc a) (pos b) p q = omega arith
and_magnitude k (negsuc a) (negsuc b) p q = or_lt k a b p q

or_magnitude : (k : ℕ) (x y : ℤ) → magnitude_of x < 2 ^ k → magnitude_of y < 2 ^ k → magnitude_of (int_or x y) < 2 ^ k
or_magnitude k (pos a) (pos b) p q = or_lt k a b p q
or_magnitude k (pos a) (negsuc b) p q = omega arith
or_magnitude k (negsuc a) (pos b) p q = omega arith
or_magnitude k (negsuc a) (negsuc b) p q = omega (arith, and_le_l a b)

xor_magnitude : (k : ℕ) (x y : ℤ) → magnitude_of x < 2 ^ k → magnitude_of y < 2 ^ k → magnitude_of (int_xor x y) < 2 ^ k
xor_magnitude k (pos a) (pos b) p q = xor_lt k a b p q
xor_magnitude k (pos a) (negsuc b) p q = xor_lt k a b p q
xor_magnitude k (negsuc a) (pos b) p q = xor_lt k a b p q
xor_magnitude k (negsuc a) (negsuc b) p q = xor_lt k a b p q

pub fits_and : (n : ℕ) (s : Bool) (x y : ℤ) → FitsBits n s x → FitsBits n s y → FitsBits n s (int_and x y)
fits_and n true x y f g = fits_from_magnitude n (int_and x y) (and_magnitude (n - 1) x y (magnitude_fits n x f) (magnitude_fits n y g))
fits_and n false (pos a) (pos b) f g = fits_pos n (bit_and a b) (omega (arith, and_le_l a b, pos_fits n a f))
fits_and n false (negsuc a) y f g = absurd (omega (arith, unsigned_fits n (negsuc a) f))
fits_and n false (pos a) (negsuc b) f g = absurd (omega (arith, unsigned_fits n (negsuc b) g))

pub fits_or : (n : ℕ) (s : Bool) (x y : ℤ) → FitsBits n s x → FitsBits n s y → FitsBits n s (int_or x y)
fits_or n true x y f g = fits_from_magnitude n (int_or x y) (or_magnitude (n - 1) x y (magnitude_fits n x f) (magnitude_fits n y g))
fits_or n false (pos a) (pos b) f g = fits_pos n (bit_or a b) (or_lt n a b (pos_fits n a f) (pos_fits n b g))
fits_or n false (negsuc a) y f g = absurd (omega (arith, unsigned_fits n (negsuc a) f))
fits_or n false (pos a) (negsuc b) f g = absurd (omega (arith, unsigned_fits n (negsuc b) g))

pub fits_xor : (n : ℕ) (s : Bool) (x y : ℤ) → FitsBits n s x → FitsBits n s y → FitsBits n s (int_xor x y)
fits_xor n true x y f g = fits_from_magnitude n (int_xor x y) (xor_magnitude (n - 1) x y (magnitude_fits n x f) (magnitude_fits n y g))
fits_xor n false (pos a) (pos b) f g = fits_pos n (bit_xor a b) (xor_lt n a b (pos_fits n a f) (pos_fits n b g))
fits_xor n false (negsuc a) y f g = absurd (omega (arith, unsigned_fits n (negsuc a) f))
fits_xor n false (pos a) (negsuc b) f g = absurd (omega (arith, unsigned_fits n (negsuc b) g))

pub fits_flag : (b : Bool) → FitsBits 1 false (flag b)
fits_flag true = fits_pos 1 1 (omega arith)
fits_flag false = fits_pos 1 0 (omega arith)

not_magnitude : (x : ℤ) → magnitude_of (int_not x) ≡ magnitude_of x
not_magnitude (pos a) = refl
not_magnitude (negsuc a) = refl

pub fits_not_signed : (n : ℕ) (x : ℤ) → FitsBits n true x → FitsBits n true (int_not x)
fits_not_signed n x f = fits_from_magnitude n (int_not x) (omega (arith, not_magnitude x, magnitude_fits n x f))

pub fits_not_unsigned : (n : ℕ) (x : ℤ) → FitsBits n false x → FitsBits n false (pos (2 ^ n - 1) -ℤ x)
fits_not_unsigned n x f =
    let p = unsigned_fits n x f in
    let o = pow_pos n in
    fits_unsigned n (pos (2 ^ n - 1) -ℤ x) (omega (arith, ints)) (omega (arith, ints))

-- a shift to the right
shifted_magnitude : (x : ℤ) (k : ℕ) → magnitude_of (floor_div x (2 ^ k)) ≤ magnitude_of x
shifted_magnitude (pos a) k = shr_le a k
shifted_magnitude (negsuc a) k = shr_le a k

pub fits_floor : (n : ℕ) (s : Bool) (x : ℤ) (k : ℕ) → FitsBits n s x → FitsBits n s (floor_div x (2 ^ k))
fits_floor n true x k f = fits_from_magnitude n (floor_div x (2 ^ k)) (omega (arith, shifted_magnitude x k, magnitude_fits n x f))
fits_floor n false (pos a) k f = fits_pos n (a / 2 ^ k) (omega (arith, shr_le a k, pos_fits n a f))
fits_floor n false (negsuc a) k f = absurd (omega (arith, unsigned_fits n (negsuc a) f))

-- a shift to the left by at most d
pub fits_left_shift : (n d k : ℕ) (s : Bool) (x : ℤ) → 1 ≤ n → k ≤ d → FitsBits n s x → FitsBits (n + d) s (x *ℤ pos (2 ^ k))
fits_left_shift n d k true x h l f =
    let p = signed_fits n x f in
    let e = pow-add 2 (n - 1) k in
    let i : n - 1 + k ≤ n + d - 1 = omega arith in
    let two : 0 < 2 = omega arith in
    let q = pow-le-pow_right two i in
    let o = pow_pos k in
    let r : 2 ^ k ≤ 2 ^ k = omega arith in
    let low = mul-le (down x) (2 ^ k) (up x + 2 ^ (n - 1)) (2 ^ k) p.0 r in
    let below : up x + 1 ≤ down x + 2 ^ (n - 1) = omega arith in
    let high = mul-le (up x + 1) (2 ^ k) (down x + 2 ^ (n - 1)) (2 ^ k) below r in
    fits_signed (n + d) (x *ℤ pos (2 ^ k)) (omega (arith, ints)) (omega (arith, ints))
fits_left_shift n d k false (pos a) h l f =
    let i : n + k ≤ n + d = omega arith in
    let two : 0 < 2 = omega arith in
    fits_pos (n + d) (a * 2 ^ k) (omega (arith, shl_below a n k (pos_fits n a f), pow-le-pow_right two i))
fits_left_shift n d k false (negsuc a) h l f = absurd (omega (arith, unsigned_fits n (negsuc a) f))

-- an amount of m bits is below 2 ^ m
pub count_below : (m : ℕ) (y : ℤ) → FitsBits m false y → count_of y < 2 ^ m
count_below m (pos b) g = pos_fits m b g
count_below m (negsuc b) g = pow_pos m

pub fits_mux : (a b : Shape) (c x y : ℤ) → Fits a x → Fits b y → Fits (joined a b) (mux_value c x y)
fits_mux a b c x y f g =
    cond_both (is_zero c) y x (λ z. Fits (joined a b) z) (λ _. fits_right a b y g) (λ _. fits_left a b x f)

pub fits_copies : (a : Shape) (count : ℕ) (x : ℤ) → Fits (unsigned (count * a.bits)) (replicate_value a count x)
fits_copies a count x = fits_pos (count * a.bits) (copies count a.bits (modulo x (2 ^ a.bits))) (copies_below count a.bits (modulo x (2 ^ a.bits)) (modulo-below x (2 ^ a.bits) (pow_pos a.bits)))

pub fits_field : (x : ℤ) (low len : ℕ) → FitsBits len false (pos (field_of x low len))
fits_field x low len = fits_pos len (field_of x low len) (modulo-below (floor_div x (2 ^ low)) (2 ^ len) (pow_pos len))

-- 0 is a value of every shape
pub fits_zero : (n : ℕ) (s : Bool) → FitsBits n s (pos 0)
fits_zero n true = let o = pow_pos (n - 1) in fits_signed n (pos 0) (omega arith) (omega arith)
fits_zero n false = fits_pos n 0 (pow_pos n)
