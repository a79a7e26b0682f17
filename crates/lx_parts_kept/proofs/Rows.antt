-- Descriptions that are tested, worked by hand.
use Rattle.std.proofs.Common.{refl}
use Rattle.lx_description.specs.Instance.{and_design, fsm_stmts_of, system, system_design, system_signals}
use Rattle.lx_description.specs.Wires.{bus_ports}
use Rattle.lx_parts_kept.specs.Rows.{AreTested}

pub tested : AreTested
unfolding and_design system system_design system_signals fsm_stmts_of bus_ports
tested = record {
  circuit = refl;
  whole_system = refl;
  plain = refl;
  field_outside = refl;
  parts_swapped = refl;
  module_twice = refl;
  two_places = refl;
  other_name = refl;
  no_line = refl;
  bus_port = refl;
  register = refl;
  generated = refl;
  apart = refl;
  twice = refl;
  not_there = refl;
}
