-- Each operator's value fits the operator's shape, where it has no fault.
use Rattle.std.proofs.Common.{◌≡◌, ℕ, ◌+◌, ◌-◌, ◌^◌, ◌≤◌, Bool, true, false, cond, not, ◌||◌, refl, ap, subst, arith}
use Rattle.std.specs.Prelude.{ℤ, pos, Option, Some, None, ◌*ℤ◌, int_lt, nat_le, min}
use Rattle.std.specs.Ordering.{int_eq}
use Rattle.std.proofs.lemmas.Bool.{leb-true, or_right, le-leb}
use Rattle.std.proofs.lemmas.Nat.{pow_pos}
use Rattle.lx_num.specs.declared.Shape.{Shape}
use Rattle.lx_num.specs.Ints.{FitsBits, Fits, shape}
use Rattle.lx_tables.specs.declared.operators.Op.{Op}
use Rattle.lx_tables.specs.declared.operators.Op.TheVariants.{Neg, Not, Add, Sub, Mul, Shl, Shr, And, Or, Xor, Eq, Ne, Lt, Le, Gt, Ge, Mux, Cat, Replicate}
use Rattle.lx_circuit.specs.declared.WidthFault.{WidthFault}
use Rattle.lx_circuit.specs.declared.WidthFault.TheVariants.{TooWide, SignedShift}
use Rattle.lx_circuit.specs.Shapes.{joined, joined_bits, unary_shape, binary_shape, too_wide, or_else, index_fault, binary_fault, joined_fault}
use Rattle.lx_circuit.specs.Values.{unary_value, binary_value, count_of}
use Rattle.lx_fhdl.specs.Nodes.{IsSmall}
use Rattle.lx_fhdl.proofs.Fitting.{fits_left, fits_right, fits_joined, fits_sum, fits_difference, fits_negation, fits_product, fits_and, fits_or, fits_xor, fits_flag, fits_not_signed, fits_not_unsigned, fits_floor, fits_left_shift, fits_zero, count_below}
use Rattle.lx_num.proofs.Ranges.{fits_wider}

pub none_left : (f g : Option WidthFault) → or_else f g ≡ None → f ≡ None
none_left (Some w) g e = e
none_left None g e = refl

pub none_right : (f g : Option WidthFault) → or_else f g ≡ None → g ≡ None
none_right (Some w) g e = absurd (cc)
none_right None g e = e

pub by_none : (b : Bool) (w : WidthFault) → cond b None (Some w) ≡ None → b ≡ true
by_none true w e = refl
by_none false w e = absurd (cc)

pub not_wide : (n : ℕ) → too_wide n ≡ None → n ≤ 127
not_wide n e = leb-true n 127 (by_none (nat_le n 127) (TooWide (min n 4294967295)) e)

pub narrow : (n : ℕ) → n ≤ 127 → too_wide n ≡ None
narrow n h = ap (λ (b : Bool). cond b None (Some (TooWide (min n 4294967295)))) (le-leb n 127 h)

signed_none : (b : Bool) → cond b (Some SignedShift) None ≡ None → b ≡ false
signed_none true e = absurd (cc)
signed_none false e = refl

pub index_unsigned : (b : Shape) → index_fault b ≡ None → b.signed ≡ false
index_unsigned b e = signed_none b.signed e

pub joined_some : (a b : Shape) → IsSmall a → 1 ≤ (joined a b).bits
joined_some a b p = omega (arith, p.some)

-- the value of an unsigned operand
pub unsigned_operand : (b : Shape) (y : ℤ) → b.signed ≡ false → Fits b y → FitsBits b.bits false y
unsigned_operand b y e g = let P : Bool → Type 0 = λ s. FitsBits b.bits s y in subst P e g

fits_shl : (a b : Shape) (x y : ℤ) → IsSmall a → b.signed ≡ false → Fits a x → Fits b y → Fits (binary_shape Shl a b) (binary_value Shl x y)
fits_shl a b x y p e f g =
    let h : count_of y ≤ 2 ^ b.bits - 1 = omega (arith, count_below b.bits y (unsigned_operand b y e g)) in
    let o = pow_pos b.bits in
    fits_wider (a.bits + (2 ^ b.bits - 1)) (a.bits + 2 ^ b.bits - 1) a.signed (x *ℤ pos (2 ^ count_of y)) (omega arith)
    (fits_left_shift a.bits (2 ^ b.bits - 1) (count_of y) a.signed x p.some h f)

fits_mul : (a b : Shape) (x y : ℤ) → IsSmall a → IsSmall b → Fits a x → Fits b y → Fits (binary_shape Mul a b) (binary_value Mul x y)
fits_mul a b x y p q f g =
    fits_product (joined_bits (a.signed || b.signed) a) (joined_bits (a.signed || b.signed) b) (a.signed || b.signed) x y (omega (arith, p.some)) (omega (arith, q.some))
    (fits_joined a.bits a.signed (a.signed || b.signed) x (λ e. ap (λ (s : Bool). s || b.signed) e) f)
    (fits_joined b.bits b.signed (a.signed || b.signed) y (λ e. or_right a.signed b.signed e) g)

pub binary_fits : (op : Op) (a b : Shape) (x y : ℤ) → IsSmall a → IsSmall b → binary_fault op a b ≡ None → Fits a x → Fits b y → Fits (binary_shape op a b) (binary_value op x y)
binary_fits Add a b x y p q e f g = fits_sum (joined a b).bits (joined a b).signed x y (joined_some a b p) (fits_left a b x f) (fits_right a b y g)
binary_fits Sub a b x y p q e f g = fits_difference (joined a b).bits (joined a b).signed x y (joined_some a b p) (fits_left a b x f) (fits_right a b y g)
binary_fits Mul a b x y p q e f g = fits_mul a b x y p q f g
binary_fits Shl a b x y p q e f g = fits_shl a b x y p (index_unsigned b (none_left (index_fault b) (too_wide (binary_shape Shl a b).bits) e)) f g
binary_fits Shr a b x y p q e f g = fits_floor a.bits a.signed x (count_of y) f
binary_fits And a b x y p q e f g = fits_and (joined a b).bits (joined a b).signed x y (fits_left a b x f) (fits_right a b y g)
binary_fits Or a b x y p q e f g = fits_or (joined a b).bits (joined a b).signed x y (fits_left a b x f) (fits_right a b y g)
binary_fits Xor a b x y p q e f g = fits_xor (joined a b).bits (joined a b).signed x y (fits_left a b x f) (fits_right a b y g)
binary_fits Eq a b x y p q e f g = fits_flag (int_eq x y)
binary_fits Ne a b x y p q e f g = fits_flag (not (int_eq x y))
binary_fits Lt a b x y p q e f g = fits_flag (int_lt x y)
binary_fits Le a b x y p q e f g = fits_flag (not (int_lt y x))
binary_fits Gt a b x y p q e f g = fits_flag (int_lt y x)
binary_fits Ge a b x y p q e f g = fits_flag (not (int_lt x y))
binary_fits Neg a b x y p q e f g = fits_zero 1 false
binary_fits Not a b x y p q e f g = fits_zero 1 false
binary_fits Mux a b x y p q e f g = fits_zero 1 false
binary_fits Cat a b x y p q e f g = fits_zero 1 false
binary_fits Replicate a b x y p q e f g = fits_zero 1 false

joined_small : (a b r : Shape) → joined_fault a b r ≡ None → 1 ≤ r.bits → IsSmall r
joined_small a b r e h = record { some = h; most = not_wide r.bits (none_right (too_wide (joined a b).bits) (too_wide r.bits) e) }

pub binary_small : (op : Op) (a b : Shape) → IsSmall a → IsSmall b → binary_fault op a b ≡ None → IsSmall (binary_shape op a b)
binary_small Add a b p q e = joined_small a b (binary_shape Add a b) e (omega arith)
binary_small Sub a b p q e = joined_small a b (binary_shape Sub a b) e (omega arith)
binary_small Mul a b p q e = joined_small a b (binary_shape Mul a b) e (omega (arith, p.some))
binary_small Shl a b p q e = record {
  some = omega (arith, p.some, pow_pos b.bits);
  most = not_wide (binary_shape Shl a b).bits (none_right (index_fault b) (too_wide (binary_shape Shl a b).bits) e);
}
binary_small Shr a b p q e = p
binary_small And a b p q e = joined_small a b (joined a b) e (joined_some a b p)
binary_small Or a b p q e = joined_small a b (joined a b) e (joined_some a b p)
binary_small Xor a b p q e = joined_small a b (joined a b) e (joined_some a b p)
binary_small Eq a b p q e = record { some = omega arith; most = omega arith }
binary_small Ne a b p q e = record { some = omega arith; most = omega arith }
binary_small Lt a b p q e = record { some = omega arith; most = omega arith }
binary_small Le a b p q e = record { some = omega arith; most = omega arith }
binary_small Gt a b p q e = record { some = omega arith; most = omega arith }
binary_small Ge a b p q e = record { some = omega arith; most = omega arith }
binary_small Neg a b p q e = record { some = omega arith; most = omega arith }
binary_small Not a b p q e = record { some = omega arith; most = omega arith }
binary_small Mux a b p q e = record { some = omega arith; most = omega arith }
binary_small Cat a b p q e = record { some = omega arith; most = omega arith }
binary_small Replicate a b p q e = record { some = omega arith; most = omega arith }

fits_not : (n : ℕ) (s : Bool) (x : ℤ) → FitsBits n s x → FitsBits n s (unary_value Not (shape n s) x)
fits_not n true x f = fits_not_signed n x f
fits_not n false x f = fits_not_unsigned n x f

pub unary_fits : (op : Op) (a : Shape) (x : ℤ) → 1 ≤ a.bits → Fits a x → Fits (unary_shape op a) (unary_value op a x)
unary_fits Neg a x p f = fits_negation a.bits a.signed x p f
unary_fits Not a x p f = fits_not a.bits a.signed x f
unary_fits Add a x p f = f
unary_fits Sub a x p f = f
unary_fits Mul a x p f = f
unary_fits Shl a x p f = f
unary_fits Shr a x p f = f
unary_fits And a x p f = f
unary_fits Or a x p f = f
unary_fits Xor a x p f = f
unary_fits Eq a x p f = f
unary_fits Ne a x p f = f
unary_fits Lt a x p f = f
unary_fits Le a x p f = f
unary_fits Gt a x p f = f
unary_fits Ge a x p f = f
unary_fits Mux a x p f = f
unary_fits Cat a x p f = f
unary_fits Replicate a x p f = f

pub unary_some : (op : Op) (a : Shape) → 1 ≤ a.bits → 1 ≤ (unary_shape op a).bits
unary_some Neg a p = omega arith
unary_some Not a p = p
unary_some Add a p = p
unary_some Sub a p = p
unary_some Mul a p = p
unary_some Shl a p = p
unary_some Shr a p = p
unary_some And a p = p
unary_some Or a p = p
unary_some Xor a p = p
unary_some Eq a p = p
unary_some Ne a p = p
unary_some Lt a p = p
unary_some Le a p = p
unary_some Gt a p = p
unary_some Ge a p = p
unary_some Mux a p = p
unary_some Cat a p = p
unary_some Replicate a p = p
