use Rattle.std.proofs.Common.{◌≡◌, [], replicate}
use Rattle.lx_graph.specs.Levels.{ArePartly}
use Rattle.lx_graph.proofs.levels.readers_of.Given as goal

abbrev pub invariant-loop : goal.invariant-loop
invariant-loop l = l.readers.items ≡ replicate l.counter []

abbrev pub invariant-loop-node : goal.invariant-loop-node
invariant-loop-node l = ArePartly l.graph l.node 0 l.readers.items
