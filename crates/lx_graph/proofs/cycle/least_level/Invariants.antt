use Rattle.std.proofs.Common.{take}
use Rattle.lx_graph.specs.Levels.{IsFound, level_of}
use Rattle.lx_graph.proofs.cycle.least_level.Given as goal

abbrev pub invariant-loop-node : goal.invariant-loop-node
invariant-loop-node l = IsFound (level_of l.levels) (take l.node-index l.nodes) l.least
