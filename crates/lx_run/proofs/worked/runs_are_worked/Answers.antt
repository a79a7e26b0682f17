use Rattle.std.proofs.Common.{refl}
use Rattle.lx_value.specs.Numbers.{python_value}
use Rattle.lx_value.specs.Arguments.{bounds_of, is_wrong_count}
use Rattle.lx_state.specs.Builtins.{builtin_name, builtin_of, builtins}
use Rattle.lx_state.specs.Frames.{enter, hide, leave, named, nearest, put_local, restore, set_local, set_param}
use Rattle.lx_state.specs.Lists.{deeper, int_of, ints_of, items_made, items_of, keep_items, list_made, text_made, text_of, tuple_made}
use Rattle.lx_state.specs.Naming.{bind_items, bind_list, bind_name, bind_value, bind_within, mark, name_object, object_made}
use Rattle.lx_state.specs.Work.{name_fits, one_more, spend, spend_nodes, within}
use Rattle.lx_fhdl.specs.Designs.{circuit_of}
use Rattle.lx_shaped.specs.Making.{make_signal}
use Rattle.lx_objects.specs.Domains.{mention, new_domain}
use Rattle.lx_objects.specs.Fsms.{act_made, change_fsm, fsm_made, keep_fsm, keep_stand_in, state_fits}
use Rattle.lx_objects.specs.Modules.{keep_module, module_made}
use Rattle.lx_objects.specs.Signals.{keep_owner, new_signal, put_signal}
use Rattle.lx_objects.specs.Statements.{all_hanging, all_of, node_sum, only, statements_of}
use Rattle.lx_ops.specs.Attributes.{attribute_of, module_attribute}
use Rattle.lx_ops.specs.Binary.{binary, number_made}
use Rattle.lx_ops.specs.Compare.{negated, prefixed, truth}
use Rattle.lx_ops.specs.Items.{item_of, listed}
use Rattle.lx_ops.specs.Places.{add_at, bind_at, holder_of, read_at}
use Rattle.lx_builtins.specs.Arguments.{bound_to, unnamed}
use Rattle.lx_builtins.specs.Calls.{builtin_called, method_called}
use Rattle.lx_builtins.specs.Fsms.{act_called, act_under, fsm_called, state_name}
use Rattle.lx_builtins.specs.Numbers.{counts, max_called}
use Rattle.lx_run.specs.Calls.{called}
use Rattle.lx_run.specs.Classes.{bases_run, body_run, class_called, class_defaults, class_kind, class_run, classes_run, default_run, defaults_run, description_run, keep_class, keep_defaults, make_within, module_begun, module_object, module_run, param_bound, param_value, params_bound, params_fit, top_made}
use Rattle.lx_run.specs.Loops.{items_bound, name_hidden, names_bound, names_hidden, names_restored, names_set}
use Rattle.lx_run.specs.Running.{arguments_run, attribute_sum, base_run, bound_run, branched, call_run, chosen, comprehended, entries, entry_run, eval, evals, exec, execs, first_that, fragment_added, gathered, held_run, held_value, hold, item_run, kept, link_run, linked, loop_run, name_added, named_run, object_added, place_added, place_bound, placed_run, run_alone, slice_run, starred_run, tested, trailed, turn, turn_gathered, turns, value_added, weighed}
use Rattle.lx_run.specs.Signs.{all_applied, all_negated, all_signed, comparison_of, python_op, sign_of}
use Rattle.lx_run.proofs.worked.runs_are_worked.Goals as goal

pub returns-clause-expressions : goal.returns-clause-expressions
unfolding name_hidden python_value bounds_of is_wrong_count builtin_name builtin_of builtins enter hide leave named nearest put_local restore set_local set_param deeper int_of ints_of items_made items_of keep_items list_made text_made tuple_made bind_items bind_list bind_name bind_value bind_within mark name_object object_made name_fits spend within keep_module module_made one_more attribute_of module_attribute binary number_made negated prefixed truth item_of listed add_at bind_at holder_of read_at bound_to unnamed builtin_called counts max_called called bases_run body_run class_called class_defaults class_kind class_run classes_run default_run defaults_run description_run keep_class keep_defaults make_within module_begun module_object module_run param_bound param_value params_bound params_fit top_made items_bound names_bound names_hidden names_restored names_set arguments_run attribute_sum base_run bound_run branched call_run chosen comprehended entries entry_run eval evals exec execs first_that fragment_added gathered held_run held_value hold item_run kept link_run linked loop_run name_added named_run object_added place_added place_bound placed_run run_alone slice_run starred_run tested trailed turn turn_gathered turns value_added weighed all_applied all_negated all_signed comparison_of python_op sign_of
returns-clause-expressions c = record {
  first_true = refl;
  first_false = refl;
  last_untested = refl;
  others_tested = refl;
  chosen = refl;
  condition_line = refl;
  sign_of_power = refl;
  power_of_power = refl;
  base_first = refl;
  from_the_left = refl;
  not_not = refl;
  too_great = refl;
  attribute_first = refl;
  taken_apart = refl;
  an_item = refl;
  not_callable = refl;
  argument_first = refl;
}

pub returns-clause-statements : goal.returns-clause-statements
unfolding name_hidden python_value bounds_of is_wrong_count builtin_name builtin_of builtins enter hide leave named nearest put_local restore set_local set_param deeper int_of ints_of items_made items_of keep_items list_made text_made tuple_made bind_items bind_list bind_name bind_value bind_within mark name_object object_made name_fits spend within keep_module module_made one_more attribute_of module_attribute binary number_made negated prefixed truth item_of listed add_at bind_at holder_of read_at bound_to unnamed builtin_called counts max_called called bases_run body_run class_called class_defaults class_kind class_run classes_run default_run defaults_run description_run keep_class keep_defaults make_within module_begun module_object module_run param_bound param_value params_bound params_fit top_made items_bound names_bound names_hidden names_restored names_set arguments_run attribute_sum base_run bound_run branched call_run chosen comprehended entries entry_run eval evals exec execs first_that fragment_added gathered held_run held_value hold item_run kept link_run linked loop_run name_added named_run object_added place_added place_bound placed_run run_alone slice_run starred_run tested trailed turn turn_gathered turns value_added weighed all_applied all_negated all_signed comparison_of python_op sign_of
returns-clause-statements c = record {
  value_first = refl;
  object_first = refl;
  line_of_if = refl;
  name_of_loop = refl;
  too_few_names = refl;
  restored = refl;
  gone = refl;
  name_added = refl;
  units = refl;
  text_alone = refl;
}

pub returns-clause-classes : goal.returns-clause-classes
unfolding name_hidden python_value bounds_of is_wrong_count builtin_name builtin_of builtins enter hide leave named nearest put_local restore set_local set_param deeper int_of ints_of items_made items_of keep_items list_made text_made tuple_made bind_items bind_list bind_name bind_value bind_within mark name_object object_made name_fits spend within keep_module module_made one_more attribute_of module_attribute binary number_made negated prefixed truth item_of listed add_at bind_at holder_of read_at bound_to unnamed builtin_called counts max_called called bases_run body_run class_called class_defaults class_kind class_run classes_run default_run defaults_run description_run keep_class keep_defaults make_within module_begun module_object module_run param_bound param_value params_bound params_fit top_made items_bound names_bound names_hidden names_restored names_set arguments_run attribute_sum base_run bound_run branched call_run chosen comprehended entries entry_run eval evals exec execs first_that fragment_added gathered held_run held_value hold item_run kept link_run linked loop_run name_added named_run object_added place_added place_bound placed_run run_alone slice_run starred_run tested trailed turn turn_gathered turns value_added weighed all_applied all_negated all_signed comparison_of python_op sign_of
returns-clause-classes c = record {
  plain = refl;
  lite = refl;
  system = refl;
  unknown_base = refl;
  system_below = refl;
  made = refl;
  called = refl;
  not_itself = refl;
  default_first = refl;
  no_default = refl;
  two_selves = refl;
  nothing = refl;
  too_deep = refl;
}

pub returns-clause-fsms : goal.returns-clause-fsms
unfolding name_hidden python_value bounds_of is_wrong_count builtin_name builtin_of builtins enter hide leave named nearest put_local restore set_local set_param deeper int_of ints_of items_made items_of keep_items list_made text_made tuple_made bind_items bind_list bind_name bind_value bind_within mark name_object object_made name_fits spend within keep_module module_made one_more attribute_of module_attribute binary number_made negated prefixed truth item_of listed add_at bind_at holder_of read_at bound_to unnamed builtin_called counts max_called called bases_run body_run class_called class_defaults class_kind class_run classes_run default_run defaults_run description_run keep_class keep_defaults make_within module_begun module_object module_run param_bound param_value params_bound params_fit top_made items_bound names_bound names_hidden names_restored names_set arguments_run attribute_sum base_run bound_run branched call_run chosen comprehended entries entry_run eval evals exec execs first_that fragment_added gathered held_run held_value hold item_run kept link_run linked loop_run name_added named_run object_added place_added place_bound placed_run run_alone slice_run starred_run tested trailed turn turn_gathered turns value_added weighed all_applied all_negated all_signed comparison_of python_op sign_of circuit_of make_signal text_of spend_nodes mention new_domain act_made change_fsm fsm_made keep_fsm keep_stand_in state_fits keep_owner new_signal put_signal all_hanging all_of node_sum only statements_of method_called act_called act_under fsm_called state_name
returns-clause-fsms c = record {
  nothing_given = refl;
  states = refl;
  units = refl;
}
