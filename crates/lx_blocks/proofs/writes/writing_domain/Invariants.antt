use Rattle.std.proofs.Common.{◌≡◌, drop, map}
use Rattle.lx_fhdl.specs.Designs.{port_of}
use Rattle.lx_emission.specs.Memories.{writing_domain}
use Rattle.lx_blocks.proofs.writes.writing_domain.Given as goal

abbrev pub invariant-loop-port : goal.invariant-loop-port
invariant-loop-port l = writing_domain l.k (map port_of l.ports) ≡ writing_domain l.k (map port_of (drop l.port-index l.ports))
