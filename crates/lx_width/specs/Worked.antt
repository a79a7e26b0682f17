-- Shapes and faults of operators, worked by hand.
use Rattle.std.specs.Prelude.{◌≡◌, ℕ, true, ◌-◌, ◌*◌, Result, Ok, Err}
use Rattle.lx_num.specs.declared.Shape.{Shape}
use Rattle.lx_num.specs.Ints.{shape, unsigned}
use Rattle.lx_tables.specs.declared.operators.Op.{Op}
use Rattle.lx_tables.specs.declared.operators.Op.TheVariants as op
use Rattle.lx_circuit.specs.declared.WidthFault.{WidthFault}
use Rattle.lx_circuit.specs.declared.WidthFault.TheVariants.{TooWide, SignedShift, BadSlice, BadWidth}
use Rattle.lx_circuit.specs.Shapes.{unary_shape, binary_shape, too_wide, binary_fault, replicate_fault, slice_fault, constant_fault}
use Rattle.lx_width.specs.Width.{shaped}

abbrev pub signed : ℕ → Shape
signed n = shape n true

abbrev pub unary : Op → Shape → Result Shape WidthFault
unary op a = shaped (too_wide (unary_shape op a).bits) (unary_shape op a)

abbrev pub binary : Op → Shape → Shape → Result Shape WidthFault
binary op a b = shaped (binary_fault op a b) (binary_shape op a b)

-- a stated shape, as that of a constant
abbrev pub stated : Shape → Result Shape WidthFault
stated a = shaped (constant_fault a) a

abbrev pub copied : Shape → ℕ → Result Shape WidthFault
copied a count = shaped (replicate_fault a count) (unsigned (count * a.bits))

abbrev pub sliced : Shape → ℕ → ℕ → Result Shape WidthFault
sliced a low high = shaped (slice_fault a low high) (unsigned (high - low))

-- What they have.
pub record AreWorked : Type 0 where
  pub sum : binary op.Add (unsigned 4) (unsigned 4) ≡ Ok (unsigned 5)
  pub mixed_sum : binary op.Add (signed 4) (unsigned 4) ≡ Ok (signed 6)
  pub difference : binary op.Sub (unsigned 4) (unsigned 4) ≡ Ok (signed 5)
  pub mixed_difference : binary op.Sub (unsigned 8) (signed 4) ≡ Ok (signed 10)
  pub product : binary op.Mul (signed 4) (signed 4) ≡ Ok (signed 8)
  pub mixed_product : binary op.Mul (unsigned 4) (signed 4) ≡ Ok (signed 9)
  pub wide_product : binary op.Mul (unsigned 64) (unsigned 64) ≡ Err (TooWide 128)
  pub shifted : binary op.Shl (unsigned 64) (unsigned 6) ≡ Ok (unsigned 127)
  pub shifted_too_far : binary op.Shl (unsigned 64) (unsigned 7) ≡ Err (TooWide 191)
  pub shifted_far_past : binary op.Shl (unsigned 64) (unsigned 64) ≡ Err (TooWide 4294967295)
  pub signed_amount : binary op.Shl (unsigned 1) (signed 1) ≡ Err SignedShift
  pub shifted_right : binary op.Shr (signed 4) (unsigned 127) ≡ Ok (signed 4)
  pub signed_right_amount : binary op.Shr (signed 4) (signed 2) ≡ Err SignedShift
  pub mixed_bits : binary op.And (unsigned 4) (signed 4) ≡ Ok (signed 5)
  pub wider_bits : binary op.Xor (unsigned 3) (unsigned 4) ≡ Ok (unsigned 4)
  pub comparison : binary op.Lt (signed 4) (unsigned 4) ≡ Ok (unsigned 1)
  pub joined_for_comparison : binary op.Eq (unsigned 127) (signed 1) ≡ Err (TooWide 128)
  pub joined_for_sum : binary op.Add (unsigned 127) (signed 4) ≡ Err (TooWide 128)
  pub wide_sum : binary op.Add (unsigned 127) (unsigned 4) ≡ Err (TooWide 128)
  pub negated : unary op.Neg (unsigned 4) ≡ Ok (signed 5)
  pub negated_wide : unary op.Neg (signed 127) ≡ Err (TooWide 128)
  pub inverted : unary op.Not (signed 4) ≡ Ok (signed 4)
  pub no_bits : stated (unsigned 0) ≡ Err BadWidth
  pub past_the_widest : stated (signed 128) ≡ Err (TooWide 128)
  pub far_past : stated (signed 4294967295) ≡ Err (TooWide 4294967295)
  pub no_copies : copied (unsigned 4) 0 ≡ Err BadWidth
  pub copies : copied (signed 4) 3 ≡ Ok (unsigned 12)
  pub many_copies : copied (unsigned 64) 4294967295 ≡ Err (TooWide 4294967295)
  pub upper_bits : sliced (signed 8) 4 8 ≡ Ok (unsigned 4)
  pub empty_slice : sliced (unsigned 8) 4 4 ≡ Err BadSlice
  pub past_the_bits : sliced (unsigned 8) 4 9 ≡ Err BadSlice
