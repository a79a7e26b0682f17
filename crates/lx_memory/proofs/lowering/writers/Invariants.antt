use Rattle.std.proofs.Common.{◌≡◌, take}
use Rattle.lx_memory.specs.Lowers.{writers}
use Rattle.lx_memory.proofs.lowering.writers.Given as goal

abbrev pub invariant-loop-port : goal.invariant-loop-port
invariant-loop-port l = l.list ≡ writers (take l.port-index l.ports)
