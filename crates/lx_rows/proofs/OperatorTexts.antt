-- The texts of operators, by computation.
use Rattle.std.proofs.Common.{refl}
use Rattle.lx_vtext.specs.Printed.{number_text, literal_text, range_text}
use Rattle.lx_rows.specs.Operators.{AreRead}

pub are_read : AreRead
unfolding number_text literal_text range_text
are_read = record {
  sum_uu = refl;
  sum_us = refl;
  sum_su = refl;
  sum_ss = refl;
  difference_uu = refl;
  difference_us = refl;
  difference_su = refl;
  difference_ss = refl;
  product_uu = refl;
  product_us = refl;
  product_su = refl;
  product_ss = refl;
  both_uu = refl;
  both_us = refl;
  both_su = refl;
  both_ss = refl;
  either_uu = refl;
  either_us = refl;
  either_su = refl;
  either_ss = refl;
  one_of_uu = refl;
  one_of_us = refl;
  one_of_su = refl;
  one_of_ss = refl;
  equal_uu = refl;
  equal_us = refl;
  equal_su = refl;
  equal_ss = refl;
  other_uu = refl;
  other_us = refl;
  other_su = refl;
  other_ss = refl;
  less_uu = refl;
  less_us = refl;
  less_su = refl;
  less_ss = refl;
  at_most_uu = refl;
  at_most_us = refl;
  at_most_su = refl;
  at_most_ss = refl;
  more_uu = refl;
  more_us = refl;
  more_su = refl;
  more_ss = refl;
  at_least_uu = refl;
  at_least_us = refl;
  at_least_su = refl;
  at_least_ss = refl;
  left_shift_uu = refl;
  left_shift_us = refl;
  left_shift_su = refl;
  left_shift_ss = refl;
  right_shift_uu = refl;
  right_shift_us = refl;
  right_shift_su = refl;
  right_shift_ss = refl;
  negated_u = refl;
  negated_s = refl;
  inverted_u = refl;
  inverted_s = refl;
  choice_uu = refl;
  choice_us = refl;
  choice_su = refl;
  choice_ss = refl;
  joined_uu = refl;
  joined_us = refl;
  joined_su = refl;
  joined_ss = refl;
  copies_u = refl;
  copies_s = refl;
  slice_u = refl;
  slice_s = refl;
  slice_whole = refl;
  slice_of_constant = refl;
}
