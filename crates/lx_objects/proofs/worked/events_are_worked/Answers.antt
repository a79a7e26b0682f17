use Rattle.std.proofs.Common.{refl}
use Rattle.std.specs.Fmt.{digits}
use Rattle.lx_arena.specs.Folds.{fold_at}
use Rattle.lx_fhdl.specs.Designs.{circuit_of}
use Rattle.lx_fhdl.specs.Trees.{term_at}
use Rattle.lx_shaped.specs.Making.{make_expr, make_signal}
use Rattle.lx_state.specs.Naming.{bind_name, bind_value, bind_within, name_object, object_made, settle_object, turn_object}
use Rattle.lx_state.specs.Work.{name_fits, one_more, within}
use Rattle.lx_objects.specs.Domains.{declare_bound}
use Rattle.lx_objects.specs.Events.{bind_source, keep_manager, keep_source, manager_made, put_source, some_source, source_made}
use Rattle.lx_objects.specs.Exprs.{put_expr}
use Rattle.lx_objects.specs.Fsms.{keep_stand_in}
use Rattle.lx_objects.specs.Modules.{add_bound, add_module, add_modules, add_object, add_objects, bind_attribute, change_module, rise, set_attribute}
use Rattle.lx_objects.specs.Registers.{wire_made, wires_made}
use Rattle.lx_objects.specs.Signals.{keep_owner, new_signal, put_signal}
use Rattle.lx_objects.specs.Statements.{all_hanging, all_of, list_hanging, only}
use Rattle.lx_objects.proofs.worked.events_are_worked.Goals as goal

pub returns : goal.returns
unfolding digits fold_at circuit_of term_at make_expr make_signal bind_name bind_value bind_within name_object object_made settle_object turn_object name_fits one_more within declare_bound bind_source keep_manager keep_source manager_made put_source some_source source_made put_expr keep_stand_in add_bound add_module add_modules add_object add_objects bind_attribute change_module rise set_attribute wire_made wires_made keep_owner new_signal put_signal all_hanging all_of list_hanging only
returns c = record {
  source_signals = refl;
  source_parts = refl;
  source = refl;
  manager_signals = refl;
  manager_parts = refl;
  objects = refl;
  two_sources = refl;
  named = refl;
  bound = refl;
  same_name = refl;
  bound_again = refl;
  bound_to_another = refl;
  another_object = refl;
  no_object = refl;
  last_source = refl;
  too_many_sources = refl;
  too_long = refl;
  many_before_long = refl;
  no_module = refl;
  no_level = refl;
  added = refl;
  added_twice = refl;
}
