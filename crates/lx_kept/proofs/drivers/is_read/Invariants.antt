use Rattle.std.proofs.Common.{◌≡◌, drop}
use Rattle.lx_kept.specs.Drivers.{is_read}
use Rattle.lx_kept.proofs.drivers.is_read.Given as goal

abbrev pub invariant-loop-port : goal.invariant-loop-port
invariant-loop-port l = is_read l.x.0 (drop l.port-index l.ports) ≡ is_read l.x.0 l.ports
