use Rattle.lx_memory.proofs.Whole.{Walks}
use Rattle.lx_memory.proofs.lowering.lower_all.Given as goal

abbrev pub invariant-loop-port : goal.invariant-loop-port
invariant-loop-port l = Walks l.fn.draft l.draft l.ports l.port-index
