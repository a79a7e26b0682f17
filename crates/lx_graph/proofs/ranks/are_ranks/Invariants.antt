use Rattle.std.proofs.Common.{ℕ, ◌<◌, false}
use Rattle.lx_graph.specs.Ranks.{AllRise}
use Rattle.lx_graph.proofs.ranks.are_ranks.Given as goal

abbrev pub invariant-loop-node : goal.invariant-loop-node
invariant-loop-node l = (a : ℕ) → a < l.node → AllRise l.graph l.ranks false a
