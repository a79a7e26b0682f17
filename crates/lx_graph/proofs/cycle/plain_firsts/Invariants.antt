use Rattle.lx_graph.specs.Levels.{HaveFirsts}
use Rattle.lx_graph.proofs.cycle.plain_firsts.Given as goal

abbrev pub invariant-loop-node : goal.invariant-loop-node
invariant-loop-node l = HaveFirsts l.graph l.levels l.firsts.items l.node
