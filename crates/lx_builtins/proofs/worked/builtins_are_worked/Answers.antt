use Rattle.std.proofs.Common.{refl}
use Rattle.std.specs.Fmt.{digits}
use Rattle.lx_value.specs.Numbers.{python_value}
use Rattle.lx_value.specs.Arguments.{bounds_of, is_wrong_count}
use Rattle.lx_arena.specs.Folds.{fold_at}
use Rattle.lx_fhdl.specs.Designs.{circuit_of}
use Rattle.lx_fhdl.specs.Stmts.{target_at}
use Rattle.lx_fhdl.specs.Trees.{term_at}
use Rattle.lx_shaped.specs.Making.{make_expr, make_signal, make_target}
use Rattle.lx_state.specs.Lists.{array_made, deeper, int_of, ints_of, items_made, items_of, keep_items, list_made, list_of, pairs_of, text_made, text_of, tuple_made}
use Rattle.lx_state.specs.Naming.{object_made}
use Rattle.lx_state.specs.Work.{name_fits, one_more, spend, spend_nodes, within}
use Rattle.lx_objects.specs.Crossings.{keep_crossing, lengthen, lengthen_by, multireg_made, pass_on, registers_within}
use Rattle.lx_objects.specs.Domains.{clock_domain_made, mention, new_domain}
use Rattle.lx_objects.specs.Exprs.{expr_made, put_expr, put_target}
use Rattle.lx_objects.specs.Modules.{attribute}
use Rattle.lx_objects.specs.Signals.{keep_owner, new_signal, put_signal, signal_made, signal_value}
use Rattle.lx_objects.specs.Fsms.{act_made, change_fsm, fsm_made, fsm_object, keep_fsm, keep_stand_in, new_ongoing, ongoing_made, state_fits}
use Rattle.lx_objects.specs.Ios as ios
use Rattle.lx_objects.specs.Memories.{address_bits_from, extent_of, keep_memory, keep_port, memory_made, mention_some, pin_made, port_made, port_with_pins, spend_words, stores, write_pins_made}
use Rattle.lx_objects.specs.Statements.{all_hanging, all_of, keep_assigning, keep_made, next_state_made, next_value_made, node_sum, only, statements_of}
use Rattle.lx_ops.specs.Attributes.{attribute_of, module_attribute}
use Rattle.lx_ops.specs.Exprs.{binary_made, constant, expr_of, exprs_of, least, unary_made}
use Rattle.lx_builtins.specs.Arguments.{bound_to, identifier_of, no_argument, one, one_or_two, three, two, unnamed}
use Rattle.lx_builtins.specs.Calls.{builtin_called, method_called}
use Rattle.lx_ops.specs.Items.{bits_of}
use Rattle.lx_ops.specs.Targets.{aim_made, aim_within, assign_next, target_of}
use Rattle.lx_builtins.specs.Domains.{clock_domain_called, count_looked_at, each_looked_at, multireg_called, multireg_from, shape_of, signal_looked_at, source_looked_at}
use Rattle.lx_builtins.specs.Exprs.{array_called, array_of_list, cat_called, constant_called, mux_called, operands_only, replicate_called, shaped_constant, stated, stated_pair}
use Rattle.lx_builtins.specs.Fsms.{act_called, act_under, fsm_called, next_state_called, next_value_called, ongoing_called, state_name}
use Rattle.lx_builtins.specs.Memories.{arguments_looked_at, call_looked_at, contents_looked_at, contents_of, depth_looked_at, get_port_called, memory_called, memory_from, mode_looked_at, mode_of, part_looked_at, port_from, width_looked_at}
use Rattle.lx_builtins.specs.Numbers.{bits_for_called, counts, exponent_below, int_called, log2_int_called, max_called, min_called, one_integer, range_called, steps_from, str_called}
use Rattle.lx_builtins.specs.Objects.{getattr_called, holds_attributes, setattr_called, setattr_on}
use Rattle.lx_builtins.specs.Sequences.{counted, enumerate_called, joint_pairs, len_called, list_called, numbered_pairs, pair_made, reversed_called, zip_called}
use Rattle.lx_builtins.specs.Signals.{all_looked_at, integer_looked_at, name_looked_at, shape_looked_at, signal_called, signal_from, signal_of, sized, spanned}
use Rattle.lx_builtins.specs.Systems.{asked_with, region_called}
use Rattle.lx_builtins.proofs.worked.builtins_are_worked.Goals as goal

pub returns-clause-clocked : goal.returns-clause-clocked
unfolding python_value bounds_of is_wrong_count fold_at circuit_of term_at target_at make_expr make_signal make_target int_of text_of object_made name_fits one_more within put_expr put_target keep_owner new_signal put_signal keep_made least constant expr_of bits_of ios.signal_of bound_to identifier_of builtin_called name_looked_at digits clock_domain_called clock_domain_made multireg_called multireg_from multireg_made each_looked_at source_looked_at signal_looked_at count_looked_at shape_of registers_within lengthen lengthen_by pass_on keep_crossing mention new_domain
returns-clause-clocked c = record {
  with_reset = refl;
  without_reset = refl;
  with_a_name = refl;
  two_registers = refl;
  in_sys = refl;
  in_pix = refl;
  a_slice = refl;
  wide_integer = refl;
  wider_integer = refl;
  first_placed = refl;
  first_named = refl;
  below_zero = refl;
}

pub returns-clause-counted : goal.returns-clause-counted
unfolding python_value bounds_of is_wrong_count fold_at circuit_of term_at make_expr make_signal array_made int_of ints_of items_made items_of keep_items list_made list_of text_made text_of tuple_made deeper pairs_of object_made name_fits spend spend_nodes within expr_made put_expr attribute one_more keep_owner new_signal put_signal signal_made signal_value attribute_of module_attribute least constant expr_of exprs_of unary_made binary_made bound_to unnamed no_argument one two one_or_two three identifier_of builtin_called method_called stated_pair stated shaped_constant constant_called cat_called replicate_called mux_called operands_only array_of_list array_called steps_from counts range_called min_called max_called one_integer int_called str_called bits_for_called log2_int_called setattr_called setattr_on holds_attributes getattr_called counted len_called list_called reversed_called pair_made numbered_pairs enumerate_called joint_pairs zip_called sized shape_looked_at name_looked_at integer_looked_at all_looked_at spanned signal_of signal_from signal_called exponent_below
returns-clause-counted c = record {
  down = refl;
  up = refl;
  at_most = refl;
  no_step = refl;
  range_of_nothing = refl;
  bits_of_a = refl;
  pairs = refl;
  shorter = refl;
  backwards = refl;
  least = refl;
  greatest = refl;
  least_of_nothing = refl;
  exponent = refl;
  no_power = refl;
  bits_of_zero = refl;
}

pub returns-clause-declared : goal.returns-clause-declared
unfolding python_value bounds_of is_wrong_count fold_at circuit_of term_at make_expr make_signal array_made int_of ints_of items_made items_of keep_items list_made list_of text_made text_of tuple_made deeper pairs_of object_made name_fits spend spend_nodes within expr_made put_expr attribute one_more keep_owner new_signal put_signal signal_made signal_value attribute_of module_attribute least constant expr_of exprs_of unary_made binary_made bound_to unnamed no_argument one two one_or_two three identifier_of builtin_called method_called stated_pair stated shaped_constant constant_called cat_called replicate_called mux_called operands_only array_of_list array_called steps_from counts range_called min_called max_called one_integer int_called str_called bits_for_called log2_int_called setattr_called setattr_on holds_attributes getattr_called counted len_called list_called reversed_called pair_made numbered_pairs enumerate_called joint_pairs zip_called sized shape_looked_at name_looked_at integer_looked_at all_looked_at spanned signal_of signal_from signal_called exponent_below
returns-clause-declared c = record {
  plain = refl;
  spanned = refl;
  below_zero = refl;
  signed = refl;
  wrapped = refl;
  no_bits = refl;
  many_bits = refl;
  no_such_name = refl;
  name_first = refl;
  reset_first = refl;
}

pub returns-clause-expressed : goal.returns-clause-expressed
unfolding python_value bounds_of is_wrong_count fold_at circuit_of term_at make_expr make_signal array_made int_of ints_of items_made items_of keep_items list_made list_of text_made text_of tuple_made deeper pairs_of object_made name_fits spend spend_nodes within expr_made put_expr attribute one_more keep_owner new_signal put_signal signal_made signal_value attribute_of module_attribute least constant expr_of exprs_of unary_made binary_made bound_to unnamed no_argument one two one_or_two three identifier_of builtin_called method_called stated_pair stated shaped_constant constant_called cat_called replicate_called mux_called operands_only array_of_list array_called steps_from counts range_called min_called max_called one_integer int_called str_called bits_for_called log2_int_called setattr_called setattr_on holds_attributes getattr_called counted len_called list_called reversed_called pair_made numbered_pairs enumerate_called joint_pairs zip_called sized shape_looked_at name_looked_at integer_looked_at all_looked_at spanned signal_of signal_from signal_called exponent_below asked_with region_called
returns-clause-expressed c = record {
  fewest_bits = refl;
  stated = refl;
  of_no_bits = refl;
  of_nothing = refl;
  never = refl;
  chosen = refl;
  array = refl;
  array_of_nothing = refl;
  bad_name = refl;
  unbound = refl;
  region_without_size = refl;
  mode = refl;
}

pub returns-clause-staged : goal.returns-clause-staged
unfolding bounds_of is_wrong_count fold_at circuit_of term_at target_at make_expr make_signal make_target deeper text_of object_made name_fits one_more spend_nodes within put_expr put_target keep_owner new_signal put_signal mention new_domain all_hanging all_of keep_assigning keep_made next_state_made next_value_made node_sum only statements_of act_made change_fsm fsm_made fsm_object keep_fsm keep_stand_in new_ongoing ongoing_made state_fits expr_of aim_made aim_within assign_next target_of bound_to one two unnamed builtin_called method_called act_called act_under fsm_called next_state_called next_value_called ongoing_called state_name
returns-clause-staged c = record {
  no_start = refl;
  start_none = refl;
  start_by_name = refl;
  start_integer = refl;
  act = refl;
  act_without_name = refl;
  act_name_first = refl;
  act_of_an_integer = refl;
  ongoing = refl;
  ongoing_of_two = refl;
  next_state = refl;
  next_state_long = refl;
  next_state_signal = refl;
  next_value = refl;
  next_value_of_one = refl;
}

pub returns-clause-stored : goal.returns-clause-stored
unfolding bounds_of is_wrong_count int_of ints_of list_of object_made one_more keep_memory memory_made spend_words stores bound_to builtin_called arguments_looked_at call_looked_at contents_looked_at contents_of depth_looked_at memory_called memory_from sized width_looked_at
returns-clause-stored c = record {
  by_place = refl;
  by_name = refl;
  without_contents = refl;
  without_depth = refl;
  no_width = refl;
  wide = refl;
  no_words = refl;
  below_zero = refl;
  most_words = refl;
  many_words = refl;
  tuple_of_contents = refl;
  text_among_contents = refl;
  first_placed = refl;
  first_named = refl;
  as_many_contents = refl;
  many_contents = refl;
  many_contents_first = refl;
  no_room = refl;
}

pub returns-clause-ports : goal.returns-clause-ports
unfolding bounds_of is_wrong_count fold_at circuit_of term_at make_expr make_signal int_of text_of object_made name_fits one_more within mention new_domain put_expr address_bits_from extent_of keep_port mention_some pin_made port_made port_with_pins write_pins_made keep_owner new_signal put_signal bound_to identifier_of method_called arguments_looked_at call_looked_at get_port_called mode_looked_at mode_of part_looked_at port_from integer_looked_at name_looked_at
returns-clause-ports c = record {
  plain = refl;
  in_sys = refl;
  by_place = refl;
  in_pix = refl;
  by_name = refl;
  at_once = refl;
  at_once_writing = refl;
  no_domain_of_this_name = refl;
  whole_word = refl;
  bits = refl;
  no_divisor = refl;
  past_the_word = refl;
  below_zero = refl;
  text_of_bits = refl;
  no_mode = refl;
  another_builtin = refl;
  text_for_a_flag = refl;
  integer_as_domain = refl;
  no_such_name = refl;
  bits_first = refl;
  mode_first = refl;
}
