use Rattle.std.proofs.Common.{refl}
use Rattle.lx_width.proofs.widths_are_worked.Goals as goal

pub returns : goal.returns
returns c = record {
  sum = refl;
  mixed_sum = refl;
  difference = refl;
  mixed_difference = refl;
  product = refl;
  mixed_product = refl;
  wide_product = refl;
  shifted = refl;
  shifted_too_far = refl;
  shifted_far_past = refl;
  signed_amount = refl;
  shifted_right = refl;
  signed_right_amount = refl;
  mixed_bits = refl;
  wider_bits = refl;
  comparison = refl;
  joined_for_comparison = refl;
  joined_for_sum = refl;
  wide_sum = refl;
  negated = refl;
  negated_wide = refl;
  inverted = refl;
  no_bits = refl;
  past_the_widest = refl;
  far_past = refl;
  no_copies = refl;
  copies = refl;
  many_copies = refl;
  upper_bits = refl;
  empty_slice = refl;
  past_the_bits = refl;
}
