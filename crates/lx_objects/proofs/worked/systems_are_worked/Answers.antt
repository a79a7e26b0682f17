use Rattle.std.proofs.Common.{refl}
use Rattle.lx_arena.specs.Folds.{fold_at}
use Rattle.lx_fhdl.specs.Designs.{circuit_of}
use Rattle.lx_fhdl.specs.Trees.{term_at}
use Rattle.lx_description.specs.Wires.{bus_ports}
use Rattle.lx_shaped.specs.Making.{make_expr, make_signal}
use Rattle.lx_state.specs.Naming.{object_made}
use Rattle.lx_state.specs.Work.{one_more}
use Rattle.lx_objects.specs.Domains.{declare, mention, new_domain, note_domain}
use Rattle.lx_objects.specs.Exprs.{put_expr}
use Rattle.lx_objects.specs.Memories.{spend_words, stores}
use Rattle.lx_objects.specs.Registers.{wire_made, wires_made}
use Rattle.lx_objects.specs.Signals.{keep_owner, new_signal, put_signal, signal_made, signal_value}
use Rattle.lx_objects.specs.Systems.{add_region, hand_over, interface_made, keep_interface, keep_region, port_made, ports_made, set_base, slave_added, some_signals, store_made, system_begun}
use Rattle.lx_objects.proofs.worked.systems_are_worked.Goals as goal

pub returns : goal.returns
unfolding fold_at circuit_of term_at bus_ports make_expr make_signal object_made one_more declare mention new_domain note_domain put_expr spend_words stores wire_made wires_made keep_owner new_signal put_signal signal_made signal_value add_region hand_over interface_made keep_interface keep_region port_made ports_made set_base slave_added some_signals store_made system_begun
returns c = record {
  ports = refl;
  port_names = refl;
  begun_domains = refl;
  last_base = refl;
  six_bytes = refl;
  four_bytes = refl;
  ram_wish = refl;
  ram = refl;
  rom = refl;
  last_words = refl;
  too_many_words = refl;
  last_memory = refl;
  too_many_memories = refl;
  last_region = refl;
  too_many_regions = refl;
  interface = refl;
  interface_parts = refl;
  handed_over = refl;
  answers = refl;
  handed_over_twice = refl;
}
