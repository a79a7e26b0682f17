use Rattle.lx_graph.proofs.Worked.{worked}
use Rattle.lx_graph.proofs.check.graphs_are_worked.Goals as goal

pub returns : goal.returns
returns c = worked
