use Rattle.lx_graph.proofs.Rows.{graph_pushed}
use Rattle.lx_graph.proofs.graph.Graph.add_node.Goals as goal

pub invariant_of-self-2 : goal.invariant_of-self-2
invariant_of-self-2 c =
    rw c.in_ok-push.ensures.items (graph_pushed _ c.args.reads c.self.invariant (rw (← c.self.view_is) at c.requires))
