use Rattle.std.proofs.Common.{refl}
use Rattle.std.specs.Fmt.{digits}
use Rattle.lx_state.specs.Builtins.{builtin_name, builtin_of, builtins}
use Rattle.lx_state.specs.Frames.{hide, named, nearest, put_local, restore, set_local, set_param}
use Rattle.lx_state.specs.Lists.{deeper, items_made, keep_items, list_made}
use Rattle.lx_state.specs.Naming.{bind_items, bind_list, bind_name, bind_value, bind_within, mark, name_object, settle_object}
use Rattle.lx_state.specs.Work.{name_fits, spend, within}
use Rattle.lx_state.proofs.worked.steps_are_worked.Goals as goal

pub returns : goal.returns
unfolding digits builtin_name builtin_of builtins hide named nearest put_local restore set_local set_param deeper items_made keep_items list_made bind_items bind_list bind_name bind_value bind_within mark name_object settle_object name_fits spend within
returns c = record {
  items_are_named = refl;
  tuples_name_nothing = refl;
  bound_twice = refl;
  list_bound_twice = refl;
  parameters_name_nothing = refl;
  first_home = refl;
  a_level_more = refl;
  sixty_four_levels = refl;
  too_deep = refl;
  one_kind = refl;
  memories_beside_crossings = refl;
  another_kind = refl;
  two_kinds = refl;
  two_kinds_more = refl;
  manager_beside_module = refl;
  fsm_beside_module = refl;
  plain_statements = refl;
  state_statement_first = refl;
  state_statement_last = refl;
  statement_beside_fsm = refl;
  too_much_work = refl;
  first_class = refl;
  second_class = refl;
  nearer_class = refl;
  built_in = refl;
  hidden_built_in = refl;
  restored = refl;
  gone = refl;
}
