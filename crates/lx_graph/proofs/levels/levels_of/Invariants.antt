use Rattle.std.proofs.Common.{◌≡◌, []}
use Rattle.lx_graph.specs.Levels.{Spreads, turns_left}
use Rattle.lx_graph.proofs.levels.levels_of.Given as goal

abbrev pub invariant-loop-node : goal.invariant-loop-node
invariant-loop-node l = record {
  spreads : Spreads l.graph [] l.wave;
  target : l.wave.target ≡ l.target;
}

abbrev pub decreases-loop-node : goal.decreases-loop-node
decreases-loop-node l = turns_left l.wave
