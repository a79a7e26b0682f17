use Rattle.std.proofs.Common.{refl}
use Rattle.lx_vmeaning.proofs.laws.modules_are_worked.Goals as goal

pub returns : goal.returns
returns c = record {
  compared_unsigned = refl;
  compared_signed = refl;
  carry_lost = refl;
  carry_kept = refl;
  borrowed = refl;
  product_cut = refl;
  wider_operand = refl;
  bits_of_both = refl;
  bits_of_either = refl;
  bits_of_one = refl;
  less_of_equals = refl;
  less_equal_of_equals = refl;
  equal_of_equals = refl;
  not_equal_of_equals = refl;
  greater_of_equals = refl;
  greater_equal_of_equals = refl;
  shifted_alone = refl;
  shifted_wider = refl;
  shifted_narrower = refl;
  filled_signed = refl;
  filled_unsigned = refl;
  extended_by_zeros = refl;
  extended_by_sign = refl;
  selected = refl;
  joined = refl;
  copied = refl;
  retyped = refl;
  untyped = refl;
  negated_wider = refl;
  inverted_wider = refl;
  amount = refl;
  chosen = refl;
  chosen_signed = refl;
  chosen_by_two = refl;
  chosen_by_none = refl;
  word = refl;
  past_the_end = refl;
}
