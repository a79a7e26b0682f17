use Rattle.std.proofs.Common.{take}
use Rattle.lx_graph.specs.Levels.{IsFound, first_at}
use Rattle.lx_graph.proofs.cycle.earliest.Given as goal

abbrev pub invariant-loop-node : goal.invariant-loop-node
invariant-loop-node l = IsFound (first_at l.levels l.firsts l.level) (take l.node-index l.nodes) l.found
