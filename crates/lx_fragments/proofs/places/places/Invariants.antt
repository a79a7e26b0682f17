use Rattle.std.proofs.Common.{drop}
use Rattle.lx_fragments.proofs.Placed.{NotedSo}
use Rattle.lx_fragments.proofs.places.places.Given as goal

abbrev pub invariant-loop-at : goal.invariant-loop-at
invariant-loop-at l = NotedSo l.machine l.top l.places l.before (drop l.at-index l.at-items)
