use Rattle.lx_graph.proofs.Back.{IsBack}
use Rattle.lx_graph.proofs.cycle.way_back.Given as goal

abbrev pub invariant-loop-level : goal.invariant-loop-level
invariant-loop-level l = IsBack l.graph l.levels.target l.levels.values.items l.least l.cycle l.node l.level

abbrev pub decreases-loop-level : goal.decreases-loop-level
decreases-loop-level l = l.level
