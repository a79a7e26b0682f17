use Rattle.std.proofs.Common.{◌≡◌, drop}
use Rattle.std.specs.List.{list_all}
use Rattle.lx_fhdl.specs.Kept as kept
use Rattle.lx_kept.proofs.ports.are_ports.Given as goal

abbrev pub invariant-loop-port : goal.invariant-loop-port
invariant-loop-port l = list_all (kept.is_port l.design) l.ports ≡ list_all (kept.is_port l.design) (drop l.port-index l.ports)
