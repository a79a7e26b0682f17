use Rattle.lx_graph.specs.Ranks.{WentFlood}
use Rattle.lx_graph.proofs.ranks.touch_readers.Given as goal

abbrev pub invariant-loop-node : goal.invariant-loop-node
invariant-loop-node l = WentFlood l.graph l.initial.flood l.flood
