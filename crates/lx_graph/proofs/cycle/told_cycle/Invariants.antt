use Rattle.std.proofs.Common.{ℕ, ◌<◌}
use Rattle.lx_graph.specs.Cycle.{OnCycle}
use Rattle.lx_graph.specs.Through.{Links}
use Rattle.lx_graph.proofs.cycle.told_cycle.Given as goal

abbrev pub invariant-loop-target : goal.invariant-loop-target
invariant-loop-target l = (a : ℕ) → a < l.target → OnCycle (Links l.graph) a → ⊥
