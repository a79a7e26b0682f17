use Rattle.std.proofs.Common.{◌≡◌, replicate}
use Rattle.lx_graph.specs.declared.search.Mark.TheVariants.{Unseen}
use Rattle.lx_graph.proofs.search.unseen.Given as goal

abbrev pub invariant-loop : goal.invariant-loop
invariant-loop l = l.marks.items ≡ replicate l.counter Unseen
