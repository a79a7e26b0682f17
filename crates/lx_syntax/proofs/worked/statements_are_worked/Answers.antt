use Rattle.std.proofs.Common.{refl}
use Rattle.lx_token.specs.Bytes.{is_digit_in, digit_value, is_digit}
use Rattle.lx_token.specs.Meanings.{quoted_bytes, unescaped, escaped, is_long}
use Rattle.lx_token.specs.Numbers.{number_value, whole_number, digits_value, number, zero_number, named_base, zeros, digits_len, more_digits, digits_behind}
use Rattle.lx_grammar.specs.Signs.{token_sign, name_sign, keyword_sign, operator_sign, single_sign, pair_sign, text_at}
use Rattle.lx_syntax.specs.Convert.{expr, exprs, post, atom, spread, trailers, arguments, arguments_in, bounds, flat, alone, of_two, prefixed, choices_of, pairs_of, choice, compared, related, with_link, links, linked, chain, comprehension, empty, grouped, spelled, way_of, with_argument, called_or_named, called_or_indexed, operator_of, comparison_of, prefix_of, with_sign, signs, leaf, names_of, names_among, is_name, tokens, line_of, line_of_parts, lines, stmt, loop_, suite, stmts, branches, otherwise, simple, bound, place_of}
use Rattle.lx_syntax.specs.Classes.{classes, classes_in, class_of, init_of, block_of, params_of, body_of, params_in, is_assign}
use Rattle.lx_syntax.proofs.worked.statements_are_worked.Goals as goal

pub returns : goal.returns
unfolding expr exprs post atom spread trailers arguments arguments_in bounds flat alone of_two prefixed choices_of pairs_of choice compared related with_link links linked chain comprehension empty grouped spelled way_of with_argument called_or_named called_or_indexed operator_of comparison_of prefix_of with_sign signs leaf names_of names_among is_name tokens line_of line_of_parts lines token_sign name_sign keyword_sign operator_sign single_sign pair_sign text_at number_value whole_number digits_value number zero_number named_base zeros digits_len more_digits digits_behind quoted_bytes unescaped escaped is_long is_digit_in digit_value is_digit stmt loop_ suite stmts branches otherwise simple bound place_of classes classes_in class_of init_of block_of params_of body_of params_in is_assign
returns c = record {
  a_pass = refl;
  a_value = refl;
  a_binding = refl;
  an_addition = refl;
  an_if = refl;
  a_for = refl;
  a_class = refl;
}
