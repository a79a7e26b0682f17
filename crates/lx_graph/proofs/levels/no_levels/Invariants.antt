use Rattle.std.proofs.Common.{◌≡◌, None, replicate}
use Rattle.lx_graph.proofs.levels.no_levels.Given as goal

abbrev pub invariant-loop : goal.invariant-loop
invariant-loop l = l.levels.items ≡ replicate l.counter None
