use Rattle.std.proofs.Common.{take}
use Rattle.lx_graph.proofs.Waves.{IsSpreading}
use Rattle.lx_graph.proofs.levels.spread.Given as goal

abbrev pub invariant-loop-node : goal.invariant-loop-node
invariant-loop-node l = IsSpreading l.graph l.read (take l.node-index l.nodes) l.initial.wave l.wave
