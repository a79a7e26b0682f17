-- Expressions and statements of FHDL, worked by hand.
use Rattle.std.specs.Prelude.{◌≡◌, ℕ, ℤ, pos, negsuc, true, Some, None, nat_eq, if◌then◌else◌}
use Rattle.lx_num.specs.Ints.{shape, unsigned, wrapped}
use Rattle.lx_tables.specs.declared.operators.Op.TheVariants as op
use Rattle.lx_circuit.specs.declared.WidthFault.TheVariants.{TooWide, SignedShift, BadSlice}
use Rattle.lx_circuit.specs.Places.{Values, At}
use Rattle.lx_circuit.specs.Terms.{Term, Constant, Signal, Unary, Binary, Mux, Cat, Replicate, Slice, Pick, NoTerm, MoreTerms}
use Rattle.lx_circuit.specs.Shapes.{Shapes, shape_of, fault_of}
use Rattle.lx_circuit.specs.Values.{value_of}
use Rattle.lx_circuit.specs.Statements.{Block, Done, Then, Assign, If, Branch, NoBranch, Case, NoArm, Arm, Whole, Part, CatTarget, PickTarget, NoTarget, MoreTargets, taken_block, result}

-- signal 0 has four signed bits, signal 1 four unsigned ones, signal 2 one, signal 3 eight, the others 64
abbrev pub shapes : Shapes
shapes x =
    if nat_eq x 0 then shape 4 true
    else (if nat_eq x 1 then unsigned 4 else (if nat_eq x 2 then unsigned 1 else (if nat_eq x 3 then unsigned 8 else unsigned 64)))

-- signals 0 and 1 have these values, and signal 2 is 1
abbrev pub values : ℤ → ℤ → Values
values a b (At x) = if nat_eq x 0 then a else (if nat_eq x 1 then b else pos 1)
values a b _ = pos 0

-- - 8 and - 5
abbrev pub minus_eight : ℤ
minus_eight = negsuc 7

abbrev pub minus_five : ℤ
minus_five = negsuc 4

abbrev pub sum_of : Term → Term → Term
sum_of a b = Binary op.Add a b

-- w[0:4].eq(5), and then If(c, w[2:6].eq(0)), where w is signal 3 and c is signal 2
abbrev pub sliced : Block
sliced =
    Then (Assign (Part 3 0 4) (Constant (pos 5) (unsigned 4)))
    (Then (If (Branch (Signal 2) (Then (Assign (Part 3 2 4) (Constant (pos 0) (unsigned 4))) Done) NoBranch) Done) Done)

-- every place is c
abbrev pub condition : ℤ → Values
condition c p = c

-- signal 0 is a, and the others are c
abbrev pub conditions : ℤ → ℤ → Values
conditions a c (At x) = if nat_eq x 0 then a else c
conditions a c _ = pos 0

-- u.eq(k), where u is signal 1
abbrev pub set : ℕ → Block
set k = Then (Assign (Whole 1) (Constant (pos k) (unsigned 4))) Done

-- If(c, u.eq(1)).Elif(s, u.eq(2)).Else(u.eq(3)), where s is signal 0 and c is signal 2
abbrev pub branched : Block
branched = Then (If (Branch (Signal 2) (set 1) (Branch (Signal 0) (set 2) NoBranch)) (set 3)) Done

-- Case(s, {-8: u.eq(6), 5: u.eq(7), "default": u.eq(9)})
abbrev pub cased : Block
cased = Then (Case (Signal 0) (Arm minus_eight (set 6) (Arm (pos 5) (set 7) NoArm)) (set 9)) Done

-- a signal that was 0, after these statements
abbrev pub after : ℕ → Values → Block → ℤ
after x v b = result shapes x (pos 0) (taken_block shapes v b)

-- Cat(u, w).eq(0xa5c), where w is signal 3
abbrev pub to_both : Block
to_both = Then (Assign (CatTarget (MoreTargets (Whole 1) (MoreTargets (Whole 3) NoTarget))) (Constant (pos 2652) (unsigned 12))) Done

-- Array([u, w])[i].eq(9), where i is signal 4
abbrev pub to_one : Block
to_one = Then (Assign (PickTarget (MoreTargets (Whole 1) (MoreTargets (Whole 3) NoTarget)) (Signal 4)) (Constant (pos 9) (unsigned 4))) Done

-- s.eq(12)
abbrev pub to_signed : Block
to_signed = Then (Assign (Whole 0) (Constant (pos 12) (unsigned 4))) Done

-- What these are worth.
pub record AreWorked : Type 0 where
  pub sum : value_of shapes (values (pos 0) (pos 15)) (sum_of (Signal 1) (Signal 1)) ≡ pos 30
  pub sum_cut : wrapped (unsigned 4) (pos 30) ≡ pos 14
  pub mixed_sum : value_of shapes (values minus_eight (pos 3)) (sum_of (Signal 0) (Signal 1)) ≡ minus_five
  pub mixed_shape : shape_of shapes (sum_of (Signal 0) (Signal 1)) ≡ shape 6 true
  pub mixed_less : value_of shapes (values minus_eight (pos 3)) (Binary op.Lt (Signal 0) (Signal 1)) ≡ pos 1
  pub carried : value_of shapes (values (pos 0) (pos 15)) (Binary op.Shr (sum_of (Signal 1) (Signal 1)) (Signal 2)) ≡ pos 15
  pub product : value_of shapes (values minus_eight (pos 0)) (Binary op.Mul (Signal 0) (Signal 0)) ≡ pos 64
  pub difference : value_of shapes (values (pos 0) (pos 3)) (Binary op.Sub (Signal 1) (Constant (pos 8) (unsigned 4))) ≡ minus_five
  pub difference_shape : shape_of shapes (Binary op.Sub (Signal 1) (Signal 1)) ≡ shape 5 true
  pub product_shape : shape_of shapes (Binary op.Mul (Signal 0) (Signal 1)) ≡ shape 9 true
  pub negated : value_of shapes (values (pos 0) (pos 3)) (Unary op.Neg (Signal 1)) ≡ negsuc 2
  pub negated_shape : shape_of shapes (Unary op.Neg (Signal 1)) ≡ shape 5 true
  pub less_of_equals : value_of shapes (values (pos 0) (pos 3)) (Binary op.Lt (Signal 1) (Signal 1)) ≡ pos 0
  pub less_equal_of_equals : value_of shapes (values (pos 0) (pos 3)) (Binary op.Le (Signal 1) (Signal 1)) ≡ pos 1
  pub equal_of_equals : value_of shapes (values (pos 0) (pos 3)) (Binary op.Eq (Signal 1) (Signal 1)) ≡ pos 1
  pub not_equal_of_equals : value_of shapes (values (pos 0) (pos 3)) (Binary op.Ne (Signal 1) (Signal 1)) ≡ pos 0
  pub greater_of_equals : value_of shapes (values (pos 0) (pos 3)) (Binary op.Gt (Signal 1) (Signal 1)) ≡ pos 0
  pub greater_equal_of_equals : value_of shapes (values (pos 0) (pos 3)) (Binary op.Ge (Signal 1) (Signal 1)) ≡ pos 1
  -- ..1011 and 0110
  pub bits_of_both : value_of shapes (values minus_five (pos 6)) (Binary op.And (Signal 0) (Signal 1)) ≡ pos 2
  pub bits_of_either : value_of shapes (values minus_five (pos 6)) (Binary op.Or (Signal 0) (Signal 1)) ≡ negsuc 0
  pub bits_of_one : value_of shapes (values minus_five (pos 6)) (Binary op.Xor (Signal 0) (Signal 1)) ≡ negsuc 2
  -- any condition but 0 holds
  pub chosen : value_of shapes (values minus_eight (pos 3)) (Mux (Signal 0) (Signal 1) (Signal 2)) ≡ pos 3
  pub chosen_other : value_of shapes (values (pos 0) (pos 3)) (Mux (Signal 0) (Signal 1) (Signal 2)) ≡ pos 1
  pub inverse_of_signed : value_of shapes (values minus_five (pos 0)) (Unary op.Not (Signal 0)) ≡ pos 4
  pub inverse_of_one : value_of shapes (values (pos 0) (pos 0)) (Unary op.Not (Signal 2)) ≡ pos 0
  pub shifted_left : value_of shapes (values minus_five (pos 0)) (Binary op.Shl (Signal 0) (Signal 2)) ≡ negsuc 9
  pub rounded_down : value_of shapes (values minus_five (pos 0)) (Binary op.Shr (Signal 0) (Signal 2)) ≡ negsuc 2
  pub last_item : value_of shapes (values (pos 0) (pos 3)) (Pick (MoreTerms (Constant (pos 7) (unsigned 4)) (MoreTerms (Signal 2) NoTerm)) (Signal 1)) ≡ pos 1
  pub parts : value_of shapes (values minus_eight (pos 3)) (Cat (MoreTerms (Signal 1) (MoreTerms (Signal 0) NoTerm))) ≡ pos 131
  pub copied : value_of shapes (values minus_eight (pos 0)) (Replicate (Signal 0) 2) ≡ pos 136
  pub items_shape : shape_of shapes (Pick (MoreTerms (Signal 0) (MoreTerms (Signal 1) NoTerm)) (Signal 2)) ≡ shape 5 true
  pub field_shape : shape_of shapes (Slice (Signal 0) 2 4) ≡ unsigned 2
  pub field : value_of shapes (values minus_eight (pos 0)) (Slice (Signal 0) 2 4) ≡ pos 2
  pub shifted_wide : shape_of shapes (Binary op.Shl (Signal 4) (Constant (pos 0) (unsigned 6))) ≡ unsigned 127
  pub shifted_fits : fault_of shapes (Binary op.Shl (Signal 4) (Constant (pos 0) (unsigned 6))) ≡ None
  pub shifted_too_wide : fault_of shapes (Binary op.Shl (Signal 4) (Constant (pos 0) (unsigned 7))) ≡ Some (TooWide 191)
  pub product_too_wide : fault_of shapes (Binary op.Mul (Signal 4) (Signal 4)) ≡ Some (TooWide 128)
  pub joined_too_wide : fault_of shapes (Binary op.Lt (Constant (pos 0) (unsigned 127)) (Signal 0)) ≡ Some (TooWide 128)
  pub signed_amount : fault_of shapes (Binary op.Shl (Signal 1) (Signal 0)) ≡ Some SignedShift
  pub empty_slice : fault_of shapes (Slice (Signal 1) 2 2) ≡ Some BadSlice
  pub laid_over : result shapes 3 (pos 192) (taken_block shapes (condition (pos 0)) sliced) ≡ pos 197
  pub laid_twice : result shapes 3 (pos 192) (taken_block shapes (condition (pos 1)) sliced) ≡ pos 193
  pub first_branch : after 1 (conditions (pos 0) (pos 1)) branched ≡ pos 1
  pub second_branch : after 1 (conditions minus_eight (pos 0)) branched ≡ pos 2
  pub no_branch : after 1 (conditions (pos 0) (pos 0)) branched ≡ pos 3
  pub arm : after 1 (conditions minus_eight (pos 0)) cased ≡ pos 6
  pub no_arm : after 1 (conditions (pos 0) (pos 0)) cased ≡ pos 9
  pub lower_part : after 1 (condition (pos 0)) to_both ≡ pos 12
  pub upper_part : after 3 (condition (pos 0)) to_both ≡ pos 165
  pub chosen_target : after 1 (condition (pos 0)) to_one ≡ pos 9
  -- past the end the last item is assigned
  pub last_target : after 3 (condition (pos 7)) to_one ≡ pos 9
  pub assigned_signed : after 0 (condition (pos 0)) to_signed ≡ negsuc 3
