use Rattle.std.proofs.Common.{refl}
use Rattle.lx_value.specs.Numbers.{python_value}
use Rattle.lx_arena.specs.Folds.{fold_at}
use Rattle.lx_fhdl.specs.Designs.{circuit_of}
use Rattle.lx_fhdl.specs.Trees.{term_at}
use Rattle.lx_fhdl.specs.Stmts.{target_at}
use Rattle.lx_shaped.specs.Making.{make_expr, make_target}
use Rattle.lx_state.specs.Lists.{array_of, deeper, int_of, items_made, items_of, keep_items, list_made, list_of, text_made, text_of, tuple_made}
use Rattle.lx_objects.specs.Exprs.{expr_made, put_expr, put_target}
use Rattle.lx_objects.specs.Statements.{all_hanging, all_of, assign_made, keep_assigning, keep_made, list_hanging, next_value_made, node_sum, only}
use Rattle.lx_state.specs.Naming.{bind_items, bind_list, bind_name, bind_value, bind_within, mark, name_object, settle_object, turn_object}
use Rattle.lx_state.specs.Work.{name_fits, one_more, spend, spend_nodes, within}
use Rattle.lx_objects.specs.Domains.{declare, declare_bound, declare_named, mention, new_domain, note_domain}
use Rattle.lx_objects.specs.Ios.{ios_of, signal_of, signals_of}
use Rattle.lx_objects.specs.Modules.{add_bound, add_module, add_modules, add_object, add_objects, attribute, bind_attribute, change_module, rise, set_attribute}
use Rattle.lx_ops.specs.Attributes.{attribute_of, module_attribute}
use Rattle.lx_ops.specs.Places.{add_at, bind_at, holder_of}
use Rattle.lx_ops.specs.Binary.{binary, copies, list_repeated, lists_joined, node_made, number_made, only_where, texts_joined, tuples_joined}
use Rattle.lx_ops.specs.Compare.{among, compare, contained, equal, in_order, negated, prefixed, truth, truth_of_compared, unequal}
use Rattle.lx_ops.specs.Exprs.{binary_made, constant, expr_of, exprs_of, least, unary_made}
use Rattle.lx_ops.specs.Items.{bit_of, bits_of, bound, byte_of, item_of, items_spent, listed, picked, slice_of}
use Rattle.lx_ops.specs.Targets.{aim_added, aim_after, aim_made, aim_within, aims_after, aims_of, assign, assign_next, target_of}
use Rattle.lx_ops.proofs.worked.operators_are_worked.Goals as goal

pub returns-clause-computed : goal.returns-clause-computed
unfolding binary among compare contained equal in_order unequal negated truth truth_of_compared prefixed number_made node_made only_where texts_joined lists_joined tuples_joined copies list_repeated constant put_expr expr_made expr_of exprs_of least unary_made binary_made put_target bit_of bits_of bound byte_of item_of items_spent listed picked slice_of aim_added aim_after aim_made aim_within aims_after aims_of assign target_of within spend spend_nodes array_of int_of items_of list_of text_of text_made list_made tuple_made items_made keep_items deeper node_sum keep_made assign_made make_expr make_target python_value circuit_of fold_at term_at target_at
returns-clause-computed c = record {
  remainder = refl;
  no_divisor = refl;
  joined_texts = refl;
  joined_units = refl;
  text_and_list = refl;
  repeated = refl;
  never_repeated = refl;
  tuple_repeated = refl;
  too_often = refl;
  inverted = refl;
  last_byte = refl;
  last_item = refl;
  past_the_items = refl;
  before_the_items = refl;
}

pub returns-clause-compared : goal.returns-clause-compared
unfolding binary among compare contained equal in_order unequal negated truth truth_of_compared prefixed number_made node_made only_where texts_joined lists_joined tuples_joined copies list_repeated constant put_expr expr_made expr_of exprs_of least unary_made binary_made put_target bit_of bits_of bound byte_of item_of items_spent listed picked slice_of aim_added aim_after aim_made aim_within aims_after aims_of assign target_of within spend spend_nodes array_of int_of items_of list_of text_of text_made list_made tuple_made items_made keep_items deeper node_sum keep_made assign_made make_expr make_target python_value circuit_of fold_at term_at target_at
returns-clause-compared c = record {
  two_kinds = refl;
  two_kinds_differ = refl;
  lists = refl;
  none_below = refl;
  first_of_list = refl;
  behind_an_expression = refl;
  in_nothing = refl;
  empty_list = refl;
  expression_as_condition = refl;
}

pub returns-clause-expressed : goal.returns-clause-expressed
unfolding binary among compare contained equal in_order unequal negated truth truth_of_compared prefixed number_made node_made only_where texts_joined lists_joined tuples_joined copies list_repeated constant put_expr expr_made expr_of exprs_of least unary_made binary_made put_target bit_of bits_of bound byte_of item_of items_spent listed picked slice_of aim_added aim_after aim_made aim_within aims_after aims_of assign target_of within spend spend_nodes array_of int_of items_of list_of text_of text_made list_made tuple_made items_made keep_items deeper node_sum keep_made assign_made make_expr make_target python_value circuit_of fold_at term_at target_at
returns-clause-expressed c = record {
  fewest_bits = refl;
  difference = refl;
  one_node = refl;
  never_divided = refl;
  signed_amount = refl;
  too_wide = refl;
  compared = refl;
  equal_to_none = refl;
  plus = refl;
  last_bit = refl;
  clamped_slice = refl;
  empty_slice = refl;
  picked = refl;
  picked_nodes = refl;
}

pub returns-clause-assigned : goal.returns-clause-assigned
unfolding binary among compare contained equal in_order unequal negated truth truth_of_compared prefixed number_made node_made only_where texts_joined lists_joined tuples_joined copies list_repeated constant put_expr expr_made expr_of exprs_of least unary_made binary_made put_target bit_of bits_of bound byte_of item_of items_spent listed picked slice_of aim_added aim_after aim_made aim_within aims_after aims_of assign assign_next target_of within spend spend_nodes array_of int_of items_of list_of text_of text_made list_made tuple_made items_made keep_items deeper node_sum keep_made assign_made keep_assigning next_value_made make_expr make_target python_value circuit_of fold_at term_at target_at
returns-clause-assigned c = record {
  cat_aimed = refl;
  part_aimed = refl;
  assigned_nodes = refl;
  to_an_integer = refl;
  a_text = refl;
  next_value_nodes = refl;
  next_value_form = refl;
  next_value_of_an_integer = refl;
}

pub returns-clause-attributes : goal.returns-clause-attributes
unfolding attribute attribute_of module_attribute add_at add_modules bind_at holder_of only
returns-clause-attributes c = record {
  bound_method = refl;
  no_method = refl;
  branch = refl;
  second_else = refl;
  own = refl;
  bus = refl;
  add_slave = refl;
  add_bank = refl;
  add_interrupt = refl;
  no_slave = refl;
  interface = refl;
  fragment_as_value = refl;
  fragment_in_place = refl;
  domain_is_bound = refl;
  fragment_is_bound = refl;
  signal_is_added = refl;
}

pub returns-clause-looked_at : goal.returns-clause-looked_at
unfolding add_at bind_at only set_attribute add_bound bind_attribute declare declare_bound declare_named mention new_domain note_domain one_more turn_object change_module name_fits within bind_items bind_list bind_name bind_value bind_within mark name_object settle_object
returns-clause-looked_at c = record {
  special_bound = refl;
  special_added = refl;
  domain_as_special = refl;
  module_as_special = refl;
  domain_bound = refl;
  domain_bound_plainly = refl;
  domain_added = refl;
  signal_as_domain = refl;
  list_as_domain = refl;
  special_as_domain = refl;
}

pub returns-clause-ports : goal.returns-clause-ports
unfolding bind_at list_of ios_of signals_of signal_of set_attribute add_bound bind_attribute declare_bound change_module name_fits within bind_items bind_list bind_name bind_value bind_within mark name_object settle_object
returns-clause-ports c = record {
  signals = refl;
  an_integer = refl;
  an_integer_among = refl;
  a_tuple = refl;
  added = refl;
  another_name = refl;
  another_module = refl;
}

pub returns-clause-states : goal.returns-clause-states
unfolding add_at add_module add_modules add_object add_objects all_hanging all_of attribute attribute_of list_hanging module_attribute bind_at holder_of only rise bind_attribute declare_bound change_module name_fits within bind_items bind_list bind_name bind_value bind_within mark name_object settle_object
returns-clause-states c = record {
  act = refl;
  ongoing = refl;
  no_state = refl;
  no_fragment = refl;
  not_bound = refl;
  added_by_name = refl;
  added_without = refl;
  as_special = refl;
}

pub returns-clause-memories : goal.returns-clause-memories
unfolding add_at add_modules all_hanging all_of attribute attribute_of list_hanging module_attribute bind_at only set_attribute add_bound bind_attribute declare_bound change_module name_fits within bind_items bind_list bind_name bind_value bind_within mark name_object settle_object
returns-clause-memories c = record {
  get_port = refl;
  no_width = refl;
  address = refl;
  read = refl;
  written = refl;
  parts_written = refl;
  no_enable = refl;
  reader = refl;
  reader_writes = refl;
  reader_enables = refl;
  not_bound = refl;
  memory_bound = refl;
  port_bound = refl;
  both_added = refl;
  memory_as_module = refl;
}
