use Rattle.lx_graph.specs.Search.{Searches, KeepSeen, steps_left}
use Rattle.lx_graph.proofs.search.run.Given as goal

abbrev pub invariant-loop-node : goal.invariant-loop-node
invariant-loop-node l = record {
  searches : Searches l.graph l.search;
  seen : KeepSeen l.initial.search.marks.items l.search.marks.items;
}

abbrev pub decreases-loop-node : goal.decreases-loop-node
decreases-loop-node l = steps_left l.graph l.search.marks.items l.search.stack.items
