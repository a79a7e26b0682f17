use Rattle.lx_graph.specs.Ranks.{Wanders}
use Rattle.lx_graph.proofs.ranks.ended.Given as goal

abbrev pub invariant-loop-root : goal.invariant-loop-root
invariant-loop-root l = Wanders l.graph l.search
