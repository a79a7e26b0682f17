use Rattle.std.proofs.Common.{refl}
use Rattle.std.specs.Fmt.{digits}
use Rattle.lx_arena.specs.Folds.{fold_at}
use Rattle.lx_fhdl.specs.Designs.{circuit_of}
use Rattle.lx_fhdl.specs.Stmts.{target_at}
use Rattle.lx_fhdl.specs.Trees.{term_at}
use Rattle.lx_shaped.specs.Making.{make_expr, make_signal, make_target}
use Rattle.lx_state.specs.Lists.{deeper, list_of}
use Rattle.lx_state.specs.Naming.{bind_name, bind_value, bind_within, name_object, object_made, settle_object, turn_object}
use Rattle.lx_state.specs.Work.{name_fits, one_more, spend_nodes, within}
use Rattle.lx_objects.specs.Cases.{add_case, add_cases, case_key, case_made, keys_fit, pair_fits}
use Rattle.lx_objects.specs.Crossings.{keep_crossing, lengthen, lengthen_by, multireg_made, pass_on, registers_within}
use Rattle.lx_objects.specs.Domains.{clock_domain_made, declare, declare_bound, declare_named, mention, new_domain, note_domain}
use Rattle.lx_objects.specs.Exprs.{put_expr, put_target}
use Rattle.lx_objects.specs.Fsms.{act_made, change_fsm, fsm_made, fsm_object, keep_fsm, keep_stand_in, new_ongoing, ongoing_made, state_fits}
use Rattle.lx_objects.specs.Ios.{ios_of, signal_of, signals_of}
use Rattle.lx_objects.specs.Modules.{add_bound, add_comb, add_module, add_modules, add_object, add_objects, add_some_in, add_sync, bind_attribute, change_module, rise, set_attribute}
use Rattle.lx_objects.specs.Signals.{keep_owner, new_signal, part_made, put_signal, signal_made, signal_value}
use Rattle.lx_objects.specs.Statements.{all_hanging, all_of, body_made, elif_made, else_made, if_made, keep_assigning, keep_made, list_hanging, next_state_made, next_value_made, node_sum, only, statements_of}
use Rattle.lx_objects.proofs.worked.steps_are_worked.Goals as goal

pub returns : goal.returns
unfolding digits bind_name bind_value bind_within name_object settle_object act_made change_fsm fsm_made fsm_object keep_fsm keep_stand_in new_ongoing ongoing_made state_fits add_bound add_modules add_object add_objects bind_attribute set_attribute else_made keep_assigning next_state_made next_value_made turn_object keep_crossing lengthen lengthen_by multireg_made pass_on registers_within clock_domain_made declare declare_bound declare_named note_domain put_target make_target list_of add_case add_cases case_key case_made keys_fit pair_fits ios_of signal_of signals_of circuit_of fold_at term_at target_at make_expr make_signal deeper object_made put_expr keep_owner new_signal part_made put_signal signal_made signal_value body_made elif_made if_made keep_made name_fits spend_nodes within one_more add_comb add_some_in add_module add_sync change_module mention new_domain rise all_hanging all_of list_hanging node_sum only statements_of
returns c = record {
  flattened = refl;
  counted = refl;
  empty_lists = refl;
  no_statement = refl;
  if_counts = refl;
  elif_counts = refl;
  elif_size = refl;
  case_counts = refl;
  case_form = refl;
  same_keys = refl;
  other_key = refl;
  no_body = refl;
  mentioned = refl;
  not_mentioned = refl;
  declares = refl;
  second_attribute = refl;
  mentioned_before = refl;
  no_name = refl;
  name_with_a_digit = refl;
  last_domain = refl;
  too_many_domains = refl;
  crossed = refl;
  crossed_to = refl;
  crossed_from = refl;
  registers = refl;
  register_names = refl;
  kept = refl;
  crossing_mentions = refl;
  no_node = refl;
  too_many_registers = refl;
  rises = refl;
  added_twice = refl;
  inside_itself = refl;
  fsm = refl;
  fsm_mentions = refl;
  fsm_is_no_module = refl;
  fsm_is_no_level = refl;
  fsm_added = refl;
  fsm_bound = refl;
  fsm_added_twice = refl;
  states = refl;
  states_count = refl;
  last_state = refl;
  too_many_states = refl;
  full_but_known = refl;
  state_statement = refl;
  next_state_in_comb = refl;
  next_value_in_sync = refl;
  if_around_it = refl;
  else_behind_it = refl;
  case_around_it = refl;
  plain_if = refl;
  next_value = refl;
  ongoing = refl;
  ongoing_owner = refl;
  ongoing_again = refl;
  ongoing_of_another = refl;
  own_signal = refl;
  part = refl;
  no_signal = refl;
  wide_signal = refl;
}
