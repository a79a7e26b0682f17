use Rattle.std.proofs.Common.{refl}
use Rattle.lx_value.specs.Arguments.{bounds_of, is_wrong_count}
use Rattle.lx_arena.specs.Folds.{fold_at}
use Rattle.lx_fhdl.specs.Designs.{circuit_of}
use Rattle.lx_fhdl.specs.Stmts.{target_at}
use Rattle.lx_fhdl.specs.Trees.{term_at}
use Rattle.lx_shaped.specs.Making.{make_expr, make_signal, make_target}
use Rattle.lx_state.specs.Lists.{int_of, list_of, text_of}
use Rattle.lx_state.specs.Naming.{bind_items, bind_list, bind_name, bind_value, bind_within, mark, name_object, object_made}
use Rattle.lx_state.specs.Work.{name_fits, one_more, within}
use Rattle.lx_objects.specs.Events.{bind_source, keep_manager, keep_source, manager_made, put_source, some_source, source_made}
use Rattle.lx_objects.specs.Exprs.{put_expr, put_target}
use Rattle.lx_objects.specs.Fsms.{keep_stand_in}
use Rattle.lx_objects.specs.Registers.{constant_made, drive_field, drive_fields, field_made, fields_end, keep_constant, keep_field, keep_register, laid, register_made, wire_made, wires_made, with_resets}
use Rattle.lx_objects.specs.Signals.{keep_owner, new_signal, put_signal}
use Rattle.lx_objects.specs.Statements.{keep_made}
use Rattle.lx_ops.specs.Attributes.{attribute_of}
use Rattle.lx_ops.specs.Places.{bind_at}
use Rattle.lx_builtins.specs.Arguments.{bound_to, identifier_of, no_argument, one, three, two}
use Rattle.lx_builtins.specs.Calls.{builtin_called, method_called}
use Rattle.lx_builtins.specs.Events.{edge_of, event_manager_called, finalize_called, source_called, source_process_called}
use Rattle.lx_builtins.specs.Objects.{getattr_called, holds_attributes, setattr_called, setattr_on}
use Rattle.lx_builtins.specs.Registers.{arguments_looked_at, call_looked_at, constant_text, csr_called, csr_constant_called, csr_field_called, csr_status_called, csr_storage_called, field_from, field_list, field_of, field_size_looked_at, fields_laid, fields_looked_at, fields_of, offset_looked_at, raw_from, register_width_looked_at, stated_bits, stated_offset, status_from, storage_from}
use Rattle.lx_builtins.specs.Signals.{integer_looked_at, name_looked_at}
use Rattle.lx_builtins.proofs.worked.registers_are_worked.Goals as goal

pub returns-clause-fields : goal.returns-clause-fields
unfolding bounds_of is_wrong_count int_of text_of object_made name_fits within keep_field field_made bound_to identifier_of builtin_called integer_looked_at name_looked_at arguments_looked_at call_looked_at csr_field_called field_from field_size_looked_at offset_looked_at stated_offset
returns-clause-fields c = record {
  plain = refl;
  by_place = refl;
  by_name = refl;
  anything = refl;
  without_name = refl;
  no_identifier = refl;
  no_text = refl;
  long_name = refl;
  no_bits = refl;
  below_zero = refl;
  most_bits = refl;
  many_bits = refl;
  last_offset = refl;
  past_offsets = refl;
  before_offsets = refl;
  offset_as_text = refl;
  no_reset = refl;
  first_placed = refl;
  first_named = refl;
}

pub returns-clause-sizes : goal.returns-clause-sizes
unfolding bounds_of is_wrong_count int_of list_of text_of object_made name_fits within fold_at circuit_of term_at target_at make_expr make_signal make_target one_more put_expr put_target keep_owner new_signal put_signal keep_made wire_made wires_made drive_field drive_fields keep_register register_made laid fields_end with_resets bound_to identifier_of builtin_called integer_looked_at name_looked_at arguments_looked_at call_looked_at csr_called csr_status_called csr_storage_called field_list field_of fields_laid fields_looked_at fields_of raw_from register_width_looked_at stated_bits status_from storage_from
returns-clause-sizes c = record {
  plain = refl;
  plain_status = refl;
  plain_raw = refl;
  wrapped = refl;
  below_zero = refl;
  software_alone = refl;
  at_once = refl;
  by_the_circuit = refl;
  own_name = refl;
  described_by_anything = refl;
  most_bits = refl;
  many_bits = refl;
  no_bits = refl;
  fewer_than_no_bits = refl;
  most_of_raw = refl;
  many_of_raw = refl;
  by_fields = refl;
  at_their_places = refl;
  beside_fields = refl;
  size_as_text = refl;
  reset_as_text = refl;
  without_fields = refl;
  no_bits_without_fields = refl;
  an_integer_among = refl;
  tuple_of_fields = refl;
  no_list = refl;
  as_wide_as_a_register = refl;
  too_wide = refl;
  no_such_name = refl;
  raw_without_fields = refl;
  first_placed = refl;
  first_named = refl;
  size_before_tuple = refl;
  size_beside_an_integer = refl;
  name_before_width = refl;
}

pub returns-clause-constants : goal.returns-clause-constants
unfolding bounds_of is_wrong_count text_of object_made constant_made keep_constant bound_to one builtin_called constant_text csr_constant_called
returns-clause-constants c = record {
  number = refl;
  greatest = refl;
  past_the_greatest = refl;
  least = refl;
  past_the_least = refl;
  text = refl;
  quote = refl;
  backslash = refl;
  comma = refl;
  unprintable = refl;
  nothing = refl;
  no_value = refl;
  without_value = refl;
  its_place = refl;
}

pub returns-clause-sources : goal.returns-clause-sources
unfolding bounds_of is_wrong_count text_of object_made name_fits within fold_at circuit_of term_at target_at make_expr make_signal make_target one_more put_expr put_target keep_owner new_signal put_signal keep_made wire_made wires_made keep_stand_in keep_manager keep_source manager_made source_made bind_items bind_list bind_name bind_value bind_within mark name_object bind_source put_source some_source attribute_of bind_at bound_to identifier_of no_argument two three builtin_called method_called edge_of event_manager_called finalize_called source_called source_process_called getattr_called holds_attributes setattr_called setattr_on
returns-clause-sources c = record {
  no_sources = refl;
  manager_of_one = refl;
  pulse = refl;
  level = refl;
  pulse_of_one = refl;
  level_of_one = refl;
  falling = refl;
  rising = refl;
  without_edge = refl;
  another_edge = refl;
  no_text = refl;
  two_edges = refl;
  finalize = refl;
  finalize_of_one = refl;
  set = refl;
  set_to_an_integer = refl;
  set_without_name = refl;
  set_on_a_source = refl;
  got = refl;
}
