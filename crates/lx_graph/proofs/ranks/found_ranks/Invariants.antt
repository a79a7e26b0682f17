use Rattle.lx_graph.specs.Ranks.{IsFlood}
use Rattle.lx_graph.proofs.ranks.found_ranks.Given as goal

abbrev pub invariant-loop-rank : goal.invariant-loop-rank
invariant-loop-rank l = IsFlood l.graph l.flood
