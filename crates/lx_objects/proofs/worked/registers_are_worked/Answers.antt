use Rattle.std.proofs.Common.{refl}
use Rattle.lx_arena.specs.Folds.{fold_at}
use Rattle.lx_fhdl.specs.Designs.{circuit_of}
use Rattle.lx_fhdl.specs.Stmts.{target_at}
use Rattle.lx_fhdl.specs.Trees.{term_at}
use Rattle.lx_shaped.specs.Making.{make_expr, make_signal, make_target}
use Rattle.lx_state.specs.Naming.{bind_name, bind_value, bind_within, name_object, object_made, settle_object, turn_object}
use Rattle.lx_state.specs.Work.{name_fits, one_more, within}
use Rattle.lx_objects.specs.Domains.{declare_bound}
use Rattle.lx_objects.specs.Exprs.{put_expr, put_target}
use Rattle.lx_objects.specs.Modules.{add_bound, bind_attribute, change_module, set_attribute}
use Rattle.lx_objects.specs.Registers.{constant_made, drive_field, drive_fields, field_made, fields_end, keep_constant, keep_field, keep_register, laid, register_made, wire_made, wires_made, with_resets}
use Rattle.lx_objects.specs.Signals.{keep_owner, new_signal, put_signal}
use Rattle.lx_objects.specs.Statements.{keep_made}
use Rattle.lx_objects.proofs.worked.registers_are_worked.Goals as goal

pub returns-clause-fields : goal.returns-clause-fields
unfolding object_made field_made fields_end keep_field laid with_resets
returns-clause-fields c = record {
  follow = refl;
  follow_back = refl;
  whole = refl;
  first_end = refl;
  last_bit = refl;
  past_the_bits = refl;
  later_counts = refl;
  modulo_bits = refl;
  field_kept = refl;
  object = refl;
}

pub returns-clause-signals : goal.returns-clause-signals
unfolding fold_at circuit_of target_at term_at make_expr make_signal make_target bind_name bind_value bind_within name_object object_made settle_object turn_object name_fits one_more within declare_bound put_expr put_target add_bound bind_attribute change_module set_attribute constant_made drive_field drive_fields keep_constant keep_register register_made wire_made wires_made keep_owner new_signal put_signal keep_made
returns-clause-signals c = record {
  storage_signals = refl;
  storage_parts = refl;
  software_alone = refl;
  nothing_drives = refl;
  status_signals = refl;
  status_parts = refl;
  driven = refl;
  driven_bits = refl;
  kept = refl;
  no_node = refl;
  raw_signals = refl;
  raw_parts = refl;
  register = refl;
  object = refl;
  bound_twice = refl;
  bound_elsewhere = refl;
  home = refl;
  constant_kept = refl;
  constant_object = refl;
}
