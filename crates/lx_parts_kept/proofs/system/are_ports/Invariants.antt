use Rattle.std.proofs.Common.{◌≡◌, drop}
use Rattle.lx_description.specs.Kept.{are_bus_ports}
use Rattle.lx_parts_kept.proofs.system.are_ports.Given as goal

abbrev pub invariant-loop-port : goal.invariant-loop-port
invariant-loop-port l = are_bus_ports l.rest (drop l.port-index l.ports) ≡ are_bus_ports l.signals l.ports
