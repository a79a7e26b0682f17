use Rattle.std.proofs.Common.{◌≡◌, ◌≢◌, ℕ, ◌<◌, []}
use Rattle.lx_graph.specs.Search.{Searches, mark_of}
use Rattle.lx_graph.specs.declared.search.Mark.TheVariants.{Unseen}
use Rattle.lx_graph.proofs.search.order_of.Given as goal

abbrev pub invariant-loop-root : goal.invariant-loop-root
invariant-loop-root l = record {
  searches : Searches l.graph l.search;
  done : l.search.stack.items ≡ [];
  seen : (a : ℕ) → a < l.root → mark_of l.search.marks.items a ≢ Unseen;
}
