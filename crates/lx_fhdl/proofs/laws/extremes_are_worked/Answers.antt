use Rattle.std.proofs.Common.{refl}
use Rattle.lx_fhdl.proofs.laws.extremes_are_worked.Goals as goal

pub returns : goal.returns
returns c = record {
  sums = refl;
  differences = refl;
  products = refl;
  bits_of_both = refl;
  bits_of_either = refl;
  bits_of_one = refl;
  equal = refl;
  unequal = refl;
  less = refl;
  less_or_equal = refl;
  greater = refl;
  greater_or_equal = refl;
  shifted_least = refl;
  shifted_greatest = refl;
  shifted_unsigned = refl;
  least_shifted_right = refl;
  greatest_shifted_right = refl;
  not_shifted = refl;
  rounded_down = refl;
  negated_least = refl;
  negated_greatest = refl;
  inverted_least = refl;
  inverted_greatest = refl;
  inverted_none = refl;
  inverted_all = refl;
  inverted_one = refl;
  chosen = refl;
  not_chosen = refl;
  copied = refl;
}
