use Rattle.std.proofs.Common.{refl}
use Rattle.lx_value.specs.Arguments.{bounds_of, is_wrong_count}
use Rattle.lx_arena.specs.Folds.{fold_at}
use Rattle.lx_fhdl.specs.Designs.{circuit_of}
use Rattle.lx_fhdl.specs.Trees.{term_at}
use Rattle.lx_shaped.specs.Making.{make_expr, make_signal}
use Rattle.lx_state.specs.Lists.{int_of, ints_of, list_of, text_of}
use Rattle.lx_state.specs.Naming.{object_made}
use Rattle.lx_state.specs.Work.{name_fits, one_more, within}
use Rattle.lx_objects.specs.Exprs.{put_expr}
use Rattle.lx_objects.specs.Memories.{spend_words, stores}
use Rattle.lx_objects.specs.Registers.{wire_made, wires_made}
use Rattle.lx_objects.specs.Signals.{keep_owner, new_signal, put_signal}
use Rattle.lx_objects.specs.Systems.{add_region, bank_added, constant_added, hand_over, interface_made, interrupt_added, keep_interface, keep_region, region_made, set_base, slave_added, some_signals, store_made}
use Rattle.lx_builtins.specs.Arguments.{bound_to, identifier_of, no_argument}
use Rattle.lx_builtins.specs.Calls.{builtin_called, method_called}
use Rattle.lx_builtins.specs.Memories.{contents_looked_at, contents_of}
use Rattle.lx_builtins.specs.Objects.{init_called, plain_init}
use Rattle.lx_builtins.specs.Registers.{constant_text}
use Rattle.lx_builtins.specs.Signals.{integer_looked_at, name_looked_at}
use Rattle.lx_builtins.specs.Systems.{add_bank_called, add_constant_called, add_interrupt_called, add_slave_called, asked_with, base_of, integer_option, interface_called, interface_of, named_looked_at, option_fits, options_called, ordering_option, placed_looked_at, region_called, region_of, size_of, stated_number, stated_origin, store_called, wish_of}
use Rattle.lx_builtins.proofs.worked.systems_are_worked.Goals as goal

pub returns-clause-options : goal.returns-clause-options
unfolding bounds_of is_wrong_count int_of text_of bound_to asked_with placed_looked_at named_looked_at set_base no_argument method_called init_called plain_init base_of integer_option option_fits options_called ordering_option
returns-clause-options c = record {
  plain = refl;
  same = refl;
  base = refl;
  greatest_base = refl;
  past_the_greatest = refl;
  below_zero = refl;
  narrow = refl;
  little = refl;
  paging = refl;
  width_as_text = refl;
  ordering_as_integer = refl;
  base_as_text = refl;
  no_such_option = refl;
  first_placed = refl;
  first_named = refl;
  of_a_module = refl;
  option_of_a_module = refl;
}

pub returns-clause-regions : goal.returns-clause-regions
unfolding bounds_of is_wrong_count int_of text_of bound_to asked_with placed_looked_at named_looked_at fold_at circuit_of term_at make_expr make_signal object_made one_more put_expr keep_owner new_signal put_signal wire_made wires_made interface_made keep_interface region_made builtin_called method_called integer_looked_at interface_called region_called size_of stated_origin
returns-clause-regions c = record {
  by_place = refl;
  by_name = refl;
  anywhere = refl;
  of_any_mode = refl;
  mode_by_place = refl;
  without_size = refl;
  no_bytes = refl;
  fewer_than_none = refl;
  all_addresses = refl;
  past_all_addresses = refl;
  past_64_bits = refl;
  origin_below_zero = refl;
  origin_as_text = refl;
  cached_as_none = refl;
  origin_first = refl;
  size_first = refl;
  signals = refl;
  interface_of_any_mode = refl;
  interface_mode_by_place = refl;
}

pub returns-clause-on_the_bus : goal.returns-clause-on_the_bus
unfolding bounds_of is_wrong_count int_of text_of bound_to asked_with placed_looked_at named_looked_at ints_of list_of name_fits one_more within spend_words stores add_region hand_over keep_region slave_added some_signals store_made identifier_of method_called contents_looked_at contents_of name_looked_at add_slave_called interface_of region_of size_of stated_origin store_called
returns-clause-on_the_bus c = record {
  ram = refl;
  its_region = refl;
  rom = refl;
  region_of_rom = refl;
  without_size = refl;
  no_bytes = refl;
  most_bytes = refl;
  many_bytes = refl;
  fewer_than_none = refl;
  as_many_contents = refl;
  many_contents = refl;
  text_among_contents = refl;
  no_room = refl;
  many_contents_first = refl;
  no_identifier = refl;
  through_interface = refl;
  region_of_slave = refl;
  handed_over_twice = refl;
  region_as_interface = refl;
  interface_as_region = refl;
  without_region = refl;
  name_first = refl;
  interface_first = refl;
}

pub returns-clause-numbered : goal.returns-clause-numbered
unfolding bounds_of is_wrong_count int_of text_of bound_to asked_with placed_looked_at named_looked_at name_fits within bank_added constant_added interrupt_added identifier_of method_called constant_text name_looked_at add_bank_called add_constant_called add_interrupt_called stated_number wish_of
returns-clause-numbered c = record {
  bank = refl;
  any_bank = refl;
  no_bank_named = refl;
  interrupt = refl;
  any_interrupt = refl;
  greatest = refl;
  past_the_greatest = refl;
  below_zero = refl;
  number_as_text = refl;
  no_identifier = refl;
  no_name = refl;
  constant_number = refl;
  constant_text = refl;
  without_value = refl;
  no_value = refl;
  constant_of_65_bits = refl;
  quote = refl;
  constant_list = refl;
}
