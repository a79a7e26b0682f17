use Rattle.std.proofs.Common.{refl}
use Rattle.lx_state.specs.Naming.{bind_items, bind_list, bind_name, bind_value, bind_within, mark, name_object, settle_object}
use Rattle.lx_state.specs.Work.{name_fits, one_more, within}
use Rattle.lx_objects.specs.Domains.{declare_bound}
use Rattle.lx_objects.specs.Events.{bind_source, put_source, some_source}
use Rattle.lx_objects.specs.Modules.{add_bound, add_module, add_modules, add_object, add_objects, attribute, bind_attribute, change_module, rise, set_attribute}
use Rattle.lx_objects.specs.Statements.{all_hanging, all_of, list_hanging, only}
use Rattle.lx_ops.specs.Attributes.{attribute_of, module_attribute, place_among}
use Rattle.lx_ops.specs.Binary.{binary}
use Rattle.lx_ops.specs.Compare.{compare, equal, negated, truth, truth_of_compared}
use Rattle.lx_ops.specs.Items.{item_of}
use Rattle.lx_ops.specs.Places.{add_at, bind_at, holder_of}
use Rattle.lx_ops.proofs.worked.registers_are_worked.Goals as goal

pub returns-clause-registers : goal.returns-clause-registers
unfolding attribute_of module_attribute attribute place_among binary compare equal negated truth truth_of_compared item_of bind_at
returns-clause-registers c = record {
  storage = refl;
  access = refl;
  device_writes = refl;
  device_data = refl;
  fields = refl;
  field = refl;
  field_by_itself = refl;
  part_of_path = refl;
  no_field = refl;
  no_data = refl;
  field_behind_two = refl;
  status = refl;
  read_access = refl;
  no_storage = refl;
  first_of_two = refl;
  written = refl;
  write_access = refl;
  shown = refl;
  shown_access = refl;
  fields_of_raw = refl;
  field_of_raw = refl;
  size_of_field = refl;
  value_of_constant = refl;
  compared = refl;
  as_condition = refl;
  added = refl;
  item = refl;
  field_bound = refl;
  register_bound = refl;
}

pub returns-clause-sources : goal.returns-clause-sources
unfolding attribute_of place_among
returns-clause-sources c = record {
  trigger = refl;
  status = refl;
  pending = refl;
  clear = refl;
  no_edge = refl;
  irq = refl;
  finalize = refl;
  bound_source = refl;
  no_enable = refl;
  source_as_irq = refl;
}

pub returns-clause-bound : goal.returns-clause-bound
unfolding add_at add_module add_modules add_object add_objects all_hanging all_of attribute attribute_of list_hanging module_attribute bind_at holder_of only rise set_attribute add_bound bind_attribute declare_bound change_module name_fits one_more within bind_items bind_list bind_name bind_value bind_within mark name_object settle_object bind_source put_source some_source
returns-clause-bound c = record {
  second = refl;
  second_is_bound = refl;
  again = refl;
  an_integer = refl;
  itself = refl;
  most = refl;
  named_as_a_fragment = refl;
  fragment_of_module = refl;
  no_fragment = refl;
  adds_nothing = refl;
  added_by_name = refl;
  added_without = refl;
  added_by_binding = refl;
  source_as_module = refl;
  as_special = refl;
}

pub returns-clause-interfaces : goal.returns-clause-interfaces
unfolding attribute_of module_attribute attribute place_among negated truth truth_of_compared bind_at
returns-clause-interfaces c = record {
  adr = refl;
  dat_w = refl;
  dat_r = refl;
  sel = refl;
  cyc = refl;
  stb = refl;
  we = refl;
  ack = refl;
  err = refl;
  no_burst = refl;
  size_of_region = refl;
  ram = refl;
  rom = refl;
  constants = refl;
  ports = refl;
  bound_bus = refl;
  bus_of_a_module = refl;
  bus_as_condition = refl;
  bus_is_bound = refl;
}
