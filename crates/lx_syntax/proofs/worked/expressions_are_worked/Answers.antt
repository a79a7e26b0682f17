use Rattle.std.proofs.Common.{refl}
use Rattle.lx_token.specs.Bytes.{is_digit_in, digit_value, is_digit}
use Rattle.lx_token.specs.Meanings.{quoted_bytes, unescaped, escaped, is_long}
use Rattle.lx_token.specs.Numbers.{number_value, whole_number, digits_value, number, zero_number, named_base, zeros, digits_len, more_digits, digits_behind}
use Rattle.lx_grammar.specs.Signs.{token_sign, name_sign, keyword_sign, operator_sign, single_sign, pair_sign, text_at}
use Rattle.lx_syntax.specs.Convert.{expr, exprs, post, atom, spread, trailers, arguments, arguments_in, bounds, flat, alone, of_two, prefixed, choices_of, pairs_of, choice, compared, related, with_link, links, linked, chain, comprehension, empty, grouped, spelled, way_of, with_argument, called_or_named, called_or_indexed, operator_of, comparison_of, prefix_of, with_sign, signs, leaf, names_of, names_among, is_name, tokens, line_of, line_of_parts, lines}
use Rattle.lx_syntax.proofs.worked.expressions_are_worked.Goals as goal

pub returns : goal.returns
unfolding expr exprs post atom spread trailers arguments arguments_in bounds flat alone of_two prefixed choices_of pairs_of choice compared related with_link links linked chain comprehension empty grouped spelled way_of with_argument called_or_named called_or_indexed operator_of comparison_of prefix_of with_sign signs leaf names_of names_among is_name tokens line_of line_of_parts lines token_sign name_sign keyword_sign operator_sign single_sign pair_sign text_at number_value whole_number digits_value number zero_number named_base zeros digits_len more_digits digits_behind quoted_bytes unescaped escaped is_long is_digit_in digit_value is_digit
returns c = record {
  a_name = refl;
  a_number = refl;
  a_text = refl;
  nothing = refl;
  truth = refl;
  untruth = refl;
  no_items = refl;
  brackets = refl;
  a_tuple = refl;
  empty_list = refl;
  list_of_one = refl;
  list_of_two = refl;
  list_of_a_tuple = refl;
  a_comprehension = refl;
  a_filter = refl;
  a_dictionary = refl;
  no_pairs = refl;
  conditional = refl;
  later_conditional = refl;
  either = refl;
  both = refl;
  twice_not = refl;
  equal = refl;
  unequal = refl;
  less = refl;
  less_or_equal = refl;
  greater = refl;
  greater_or_equal = refl;
  within = refl;
  is_none = refl;
  is_not_none = refl;
  bits_or = refl;
  bits_xor = refl;
  bits_and = refl;
  shift_left = refl;
  shift_right = refl;
  product = refl;
  floor = refl;
  remainder = refl;
  sum_and_difference = refl;
  prefixes = refl;
}
