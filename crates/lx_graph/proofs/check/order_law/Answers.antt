use Rattle.lx_graph.proofs.Orders.{acyclic}
use Rattle.lx_graph.proofs.check.order_law.Goals as goal

pub returns : goal.returns
returns c = acyclic
