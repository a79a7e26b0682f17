-- What makes the wrapped value the one that is meant.
use Rattle.std.specs.Prelude.{◌≡◌, ℕ, ℤ, ◌^◌, ◌+◌, ◌≤◌}
use Rattle.lx_num.specs.Ints.{modulo, field_of, Fits, wrapped}
use Rattle.lx_num.specs.Fields.{with_field_of}
use Rattle.lx_num.specs.declared.Shape.{Shape}

-- the wrapped value is a value of the shape
abbrev pub WrappedFits : Type 0
WrappedFits = (s : Shape) (z : ℤ) → 1 ≤ s.bits → Fits s (wrapped s z)

-- it equals the number modulo 2 to the bits
abbrev pub WrappedIsCongruent : Type 0
WrappedIsCongruent = (s : Shape) (z : ℤ) → 1 ≤ s.bits → modulo (wrapped s z) (2 ^ s.bits) ≡ modulo z (2 ^ s.bits)

-- and no other value of the shape does
abbrev pub WrappedIsUnique : Type 0
WrappedIsUnique = (s : Shape) (z y : ℤ) → 1 ≤ s.bits → Fits s y → modulo y (2 ^ s.bits) ≡ modulo z (2 ^ s.bits) → y ≡ wrapped s z

-- the field that was laid in is read again
abbrev pub FieldIsLaid : Type 0
FieldIsLaid = (z x : ℤ) (low len : ℕ) → field_of (with_field_of z low len x) low len ≡ modulo x (2 ^ len)

-- the bits below it stay
abbrev pub LowBitsStay : Type 0
LowBitsStay = (z x : ℤ) (low len : ℕ) → modulo (with_field_of z low len x) (2 ^ low) ≡ modulo z (2 ^ low)

-- the bits above it stay
abbrev pub HighBitsStay : Type 0
HighBitsStay = (z x : ℤ) (low len i n : ℕ) → low + len ≤ i → field_of (with_field_of z low len x) i n ≡ field_of z i n
