use Rattle.std.proofs.Common.{refl}
use Rattle.lx_circuit.proofs.laws.circuits_are_worked.Goals as goal

pub returns : goal.returns
returns c = record {
  sum = refl;
  sum_cut = refl;
  mixed_sum = refl;
  mixed_shape = refl;
  mixed_less = refl;
  carried = refl;
  product = refl;
  difference = refl;
  difference_shape = refl;
  product_shape = refl;
  negated = refl;
  negated_shape = refl;
  less_of_equals = refl;
  less_equal_of_equals = refl;
  equal_of_equals = refl;
  not_equal_of_equals = refl;
  greater_of_equals = refl;
  greater_equal_of_equals = refl;
  bits_of_both = refl;
  bits_of_either = refl;
  bits_of_one = refl;
  chosen = refl;
  chosen_other = refl;
  inverse_of_signed = refl;
  inverse_of_one = refl;
  shifted_left = refl;
  rounded_down = refl;
  last_item = refl;
  parts = refl;
  copied = refl;
  items_shape = refl;
  field_shape = refl;
  field = refl;
  shifted_wide = refl;
  shifted_fits = refl;
  shifted_too_wide = refl;
  product_too_wide = refl;
  joined_too_wide = refl;
  signed_amount = refl;
  empty_slice = refl;
  laid_over = refl;
  laid_twice = refl;
  first_branch = refl;
  second_branch = refl;
  no_branch = refl;
  arm = refl;
  no_arm = refl;
  lower_part = refl;
  upper_part = refl;
  chosen_target = refl;
  last_target = refl;
  assigned_signed = refl;
}
