use Rattle.std.proofs.Common.{◌≡◌, ◌++◌, drop, flat_map}
use Rattle.lx_description.specs.Wires.{port_signals}
use Rattle.lx_parts_kept.proofs.places.add_ports.Given as goal

abbrev pub invariant-loop-port : goal.invariant-loop-port
invariant-loop-port l = l.all ++ flat_map port_signals (drop l.port-index l.ports) ≡ l.initial.all ++ flat_map port_signals l.ports
