-- The shape of an expression, or the fault that its operators have.
use Rattle.std.specs.Prelude.{ℕ, Bool, true, false, List, [], ◌∷◌, Option, Some, None, ◌+◌, ◌-◌, ◌*◌, ◌^◌, max, min, nat_le, nat_lt, nat_eq, ◌&&◌, ◌||◌, if◌then◌else◌}
use Rattle.lx_num.specs.declared.Shape.{Shape}
use Rattle.lx_num.specs.Ints.{shape, unsigned}
use Rattle.lx_tables.specs.declared.operators.Op.{Op}
use Rattle.lx_tables.specs.declared.operators.Op.TheVariants.{Neg, Add, Sub, Mul, Shl, Shr, And, Or, Xor}
use Rattle.lx_circuit.specs.declared.WidthFault.{WidthFault}
use Rattle.lx_circuit.specs.declared.WidthFault.TheVariants.{TooWide, SignedShift, BadSlice, BadWidth}
use Rattle.lx_circuit.specs.Terms.{Term, Terms, Constant, Signal, Unary, Binary, Mux, Cat, Replicate, Slice, Pick, Fetch, NoTerm, MoreTerms}

-- beside a signed operand an unsigned one counts one bit more
abbrev pub extra : Bool → Bool → ℕ
extra false true = 1
extra _ _ = 0

-- the bits of an operand that is joined with others, of which some are signed
abbrev pub joined_bits : Bool → Shape → ℕ
joined_bits some a = a.bits + extra a.signed some

-- two operands joined: the wider one's bits, signed where one of them is
abbrev pub joined : Shape → Shape → Shape
joined a b =
    let some = a.signed || b.signed in
    shape (max (joined_bits some a) (joined_bits some b)) some

abbrev pub some_signed : List Shape → Bool
some_signed [] = false
some_signed (a ∷ as_) = a.signed || some_signed as_

abbrev pub widest : Bool → List Shape → ℕ
widest some [] = 0
widest some (a ∷ as_) = max (joined_bits some a) (widest some as_)

-- all items joined
abbrev pub pick_shape : List Shape → Shape
pick_shape items = shape (widest (some_signed items) items) (some_signed items)

abbrev pub bits_sum : List Shape → ℕ
bits_sum [] = 0
bits_sum (a ∷ as_) = a.bits + bits_sum as_

abbrev pub unary_shape : Op → Shape → Shape
unary_shape Neg a = shape (a.bits + 1) true
unary_shape _ a = a

abbrev pub binary_shape : Op → Shape → Shape → Shape
binary_shape Add a b = shape ((joined a b).bits + 1) (joined a b).signed
binary_shape Sub a b = shape ((joined a b).bits + 1) true
binary_shape Mul a b =
    let some = a.signed || b.signed in
    shape (joined_bits some a + joined_bits some b) some
binary_shape Shl a b = shape (a.bits + 2 ^ b.bits - 1) a.signed
binary_shape Shr a b = a
binary_shape And a b = joined a b
binary_shape Or a b = joined a b
binary_shape Xor a b = joined a b
binary_shape _ a b = unsigned 1

abbrev pub Shapes : Type 0
Shapes = ℕ → Shape

-- The shape of an expression, where no operator in it has a fault.
abbrev mutual
  pub shape_of : Shapes → Term → Shape
  shape_of s (Constant value shape) = shape
  shape_of s (Signal x) = s x
  shape_of s (Unary op a) = unary_shape op (shape_of s a)
  shape_of s (Binary op a b) = binary_shape op (shape_of s a) (shape_of s b)
  shape_of s (Mux c a b) = joined (shape_of s a) (shape_of s b)
  shape_of s (Cat parts) = unsigned (bits_sum (shapes_of s parts))
  shape_of s (Replicate a count) = unsigned (count * (shape_of s a).bits)
  shape_of s (Slice a low high) = unsigned (high - low)
  shape_of s (Pick items index) = pick_shape (shapes_of s items)
  shape_of s (Fetch m width at) = unsigned width

  pub shapes_of : Shapes → Terms → List Shape
  shapes_of s NoTerm = []
  shapes_of s (MoreTerms t ts) = shape_of s t ∷ shapes_of s ts

-- a width above 127 is a fault, shown as at most 4,294,967,295
abbrev pub too_wide : ℕ → Option WidthFault
too_wide n = if nat_le n 127 then None else Some (TooWide (min n 4294967295))

abbrev pub or_else : Option WidthFault → Option WidthFault → Option WidthFault
or_else (Some f) other = Some f
or_else None other = other

-- joining comes first, then the result
abbrev pub joined_fault : Shape → Shape → Shape → Option WidthFault
joined_fault a b r = or_else (too_wide (joined a b).bits) (too_wide r.bits)

-- an amount or an index must be unsigned
abbrev pub index_fault : Shape → Option WidthFault
index_fault b = if b.signed then Some SignedShift else None

abbrev pub binary_fault : Op → Shape → Shape → Option WidthFault
binary_fault Shl a b = or_else (index_fault b) (too_wide (binary_shape Shl a b).bits)
binary_fault Shr a b = index_fault b
binary_fault op a b = joined_fault a b (binary_shape op a b)

abbrev pub replicate_fault : Shape → ℕ → Option WidthFault
replicate_fault a count = if nat_eq count 0 then Some BadWidth else too_wide (count * a.bits)

abbrev pub slice_fault : Shape → ℕ → ℕ → Option WidthFault
slice_fault a low high = if nat_lt low high && nat_le high a.bits then None else Some BadSlice

abbrev pub pick_fault : List Shape → Shape → Option WidthFault
pick_fault items index = or_else (index_fault index) (too_wide (pick_shape items).bits)

-- a stated shape
abbrev pub constant_fault : Shape → Option WidthFault
constant_fault a = if nat_eq a.bits 0 then Some BadWidth else too_wide a.bits

-- The first fault of an expression: an operand's comes before its own.
abbrev mutual
  pub fault_of : Shapes → Term → Option WidthFault
  fault_of s (Constant value a) = constant_fault a
  fault_of s (Signal x) = None
  fault_of s (Unary op a) = or_else (fault_of s a) (too_wide (unary_shape op (shape_of s a)).bits)
  fault_of s (Binary op a b) = or_else (fault_of s a) (or_else (fault_of s b) (binary_fault op (shape_of s a) (shape_of s b)))
  fault_of s (Mux c a b) =
      or_else (fault_of s c) (or_else (fault_of s a) (or_else (fault_of s b) (too_wide (joined (shape_of s a) (shape_of s b)).bits)))
  fault_of s (Cat parts) = or_else (faults_of s parts) (too_wide (bits_sum (shapes_of s parts)))
  fault_of s (Replicate a count) = or_else (fault_of s a) (replicate_fault (shape_of s a) count)
  fault_of s (Slice a low high) = or_else (fault_of s a) (slice_fault (shape_of s a) low high)
  fault_of s (Pick items index) = or_else (faults_of s items) (or_else (fault_of s index) (pick_fault (shapes_of s items) (shape_of s index)))
  fault_of s (Fetch m width at) = or_else (fault_of s at) (constant_fault (unsigned width))

  pub faults_of : Shapes → Terms → Option WidthFault
  faults_of s NoTerm = None
  faults_of s (MoreTerms t ts) = or_else (fault_of s t) (faults_of s ts)
