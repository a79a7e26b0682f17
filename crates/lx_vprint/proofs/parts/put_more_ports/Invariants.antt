use Rattle.std.proofs.Common.{◌≡◌, ◌++◌, drop, map}
use Rattle.lx_vtext.specs.Printed.{more_ports_text}
use Rattle.lx_vtree.specs.Modules.{port_of}
use Rattle.lx_vprint.proofs.parts.put_more_ports.Given as goal

abbrev pub invariant-loop-port : goal.invariant-loop-port
invariant-loop-port l = l.out ++ more_ports_text (map port_of (drop l.port-index l.ports)) ≡ l.initial.out ++ more_ports_text (map port_of l.ports)
