use Rattle.std.proofs.Common.{subst}
use Rattle.lx_graph.specs.Checked.{IsChecked}
use Rattle.lx_sim.proofs.Orders.{no_loop, order_found}
use Rattle.lx_sim.proofs.planning.order_of.Goals as goal

pub unreachable-requires : goal.unreachable-requires
unreachable-requires c = no_loop _ _ _ c.requires.order c.requires.memories.show_nothing c.in_ok-graph.ensures (subst (IsChecked c.in_ok-graph.graph) c.in-Loop.is c.in_ok-nodes.ensures)

pub returns : goal.returns
returns c =
    order_found _ _ _ _ _ c.requires.memories.show_nothing c.in_ok-graph.ensures (subst (IsChecked c.in_ok-graph.graph) c.in-Order.is c.in_ok-nodes.ensures) (rw (c.as_slice.ensures, c.len.ensures) at c.in_ok-order-in-Order.ensures)
    (rw c.as_slice-in-Order.ensures at c.in_ok-list-in-Order.ensures)
