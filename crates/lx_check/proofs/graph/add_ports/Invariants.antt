use Rattle.lx_check.proofs.Graphing.{HasPorts}
use Rattle.lx_check.proofs.graph.add_ports.Given as goal

abbrev pub invariant-loop-x : goal.invariant-loop-x
invariant-loop-x l = HasPorts l.design l.x l.graph
