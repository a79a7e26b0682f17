use Rattle.lx_graph.specs.Ranks.{IsFlood, flood_left}
use Rattle.lx_graph.proofs.ranks.fill.Given as goal

abbrev pub invariant-loop-node : goal.invariant-loop-node
invariant-loop-node l = IsFlood l.graph l.flood

abbrev pub decreases-loop-node : goal.decreases-loop-node
decreases-loop-node l = flood_left l.flood
