use Rattle.lx_graph.specs.Search.{steps_left}
use Rattle.lx_graph.specs.Ranks.{Wanders}
use Rattle.lx_graph.proofs.ranks.drain.Given as goal

abbrev pub invariant-loop : goal.invariant-loop
invariant-loop l = Wanders l.graph l.search

abbrev pub decreases-loop : goal.decreases-loop
decreases-loop l = steps_left l.graph l.search.marks.items l.search.stack.items
