-- The value of an expression: plain arithmetic on whole numbers.
use Rattle.std.specs.Prelude.{ℕ, ℤ, pos, negsuc, Bool, List, [], ◌∷◌, ◌+◌, ◌-◌, ◌*◌, ◌^◌, ◌+ℤ◌, ◌-ℤ◌, ◌*ℤ◌, int_lt, not, if◌then◌else◌}
use Rattle.std.proofs.Common.{zero, suc, neg_ℤ}
use Rattle.std.specs.Ordering.{int_eq}
use Rattle.lx_num.specs.declared.Shape.{Shape}
use Rattle.lx_num.specs.Ints.{modulo, floor_div, unsigned, wrapped, field_of}
use Rattle.lx_num.specs.Bits.{int_not, int_and, int_or, int_xor}
use Rattle.lx_tables.specs.declared.operators.Op.{Op}
use Rattle.lx_tables.specs.declared.operators.Op.TheVariants.{Neg, Not, Add, Sub, Mul, Shl, Shr, And, Or, Xor, Eq, Ne, Lt, Le, Gt, Ge}
use Rattle.lx_circuit.specs.Places.{Values, At, Word}
use Rattle.lx_circuit.specs.Terms.{Term, Terms, Constant, Signal, Unary, Binary, Mux, Cat, Replicate, Slice, Pick, Fetch, NoTerm, MoreTerms}
use Rattle.lx_circuit.specs.Shapes.{Shapes, shape_of, shapes_of}

abbrev pub flag : Bool → ℤ
flag b = if b then pos 1 else pos 0

-- an amount or an index, which is never negative
abbrev pub count_of : ℤ → ℕ
count_of (pos n) = n
count_of (negsuc n) = 0

abbrev pub is_zero : ℤ → Bool
is_zero z = int_eq z (pos 0)

abbrev pub unary_value : Op → Shape → ℤ → ℤ
unary_value Neg a x = neg_ℤ x
unary_value Not a x = if a.signed then int_not x else pos (2 ^ a.bits - 1) -ℤ x
unary_value _ a x = x

abbrev pub binary_value : Op → ℤ → ℤ → ℤ
binary_value Add x y = x +ℤ y
binary_value Sub x y = x -ℤ y
binary_value Mul x y = x *ℤ y
binary_value Shl x y = x *ℤ pos (2 ^ count_of y)
binary_value Shr x y = floor_div x (2 ^ count_of y)
binary_value And x y = int_and x y
binary_value Or x y = int_or x y
binary_value Xor x y = int_xor x y
binary_value Eq x y = flag (int_eq x y)
binary_value Ne x y = flag (not (int_eq x y))
binary_value Lt x y = flag (int_lt x y)
binary_value Le x y = flag (not (int_lt y x))
binary_value Gt x y = flag (int_lt y x)
binary_value Ge x y = flag (not (int_lt x y))
binary_value _ x y = pos 0

abbrev pub mux_value : ℤ → ℤ → ℤ → ℤ
mux_value c x y = if is_zero c then y else x

-- the first part in the lowest bits, each part modulo 2 to its bits
abbrev pub cat_pattern : List Shape → List ℤ → ℕ
cat_pattern (a ∷ as_) (x ∷ xs) = modulo x (2 ^ a.bits) + 2 ^ a.bits * cat_pattern as_ xs
cat_pattern _ _ = 0

-- n copies of a pattern of so many bits
abbrev pub copies : ℕ → ℕ → ℕ → ℕ
copies zero bits p = 0
copies (suc n) bits p = p + 2 ^ bits * copies n bits p

abbrev pub replicate_value : Shape → ℕ → ℤ → ℤ
replicate_value a count x = pos (copies count a.bits (modulo x (2 ^ a.bits)))

-- the item at a place, the last one past the end
abbrev pub nth_or_last : {A : Type 0} → A → List A → ℕ → A
nth_or_last last [] k = last
nth_or_last last (x ∷ xs) zero = x
nth_or_last last (x ∷ xs) (suc k) = nth_or_last x xs k

abbrev pub pick_value : List ℤ → ℤ → ℤ
pick_value items index = nth_or_last (pos 0) items (count_of index)

-- The value of an expression under the values of all places.
abbrev mutual
  pub value_of : Shapes → Values → Term → ℤ
  value_of s v (Constant value shape) = wrapped shape value
  value_of s v (Signal x) = v (At x)
  value_of s v (Unary op a) = unary_value op (shape_of s a) (value_of s v a)
  value_of s v (Binary op a b) = binary_value op (value_of s v a) (value_of s v b)
  value_of s v (Mux c a b) = mux_value (value_of s v c) (value_of s v a) (value_of s v b)
  value_of s v (Cat parts) = pos (cat_pattern (shapes_of s parts) (values_of s v parts))
  value_of s v (Replicate a count) = replicate_value (shape_of s a) count (value_of s v a)
  value_of s v (Slice a low high) = pos (field_of (value_of s v a) low (high - low))
  value_of s v (Pick items index) = pick_value (values_of s v items) (value_of s v index)
  value_of s v (Fetch m width at) = wrapped (unsigned width) (v (Word m (count_of (value_of s v at))))

  pub values_of : Shapes → Values → Terms → List ℤ
  values_of s v NoTerm = []
  values_of s v (MoreTerms t ts) = value_of s v t ∷ values_of s v ts
