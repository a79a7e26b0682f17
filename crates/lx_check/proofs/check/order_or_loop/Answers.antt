use Rattle.std.proofs.Common.{subst}
use Rattle.lx_graph.specs.Checked.{IsChecked}
use Rattle.lx_check.proofs.Checking.{accepted, refused}
use Rattle.lx_check.proofs.Telling.{told_under}
use Rattle.lx_check.proofs.check.order_or_loop.Goals as goal

pub loop_fault-requires-clause-signals : goal.loop_fault-requires-clause-signals
loop_fault-requires-clause-signals c =
    rw c.as_slice-in-Loop.ensures (told_under _ _ _ c.requires.graph (subst (IsChecked c.args.graph.now) c.in-Loop.is c.in_ok-nodes.ensures))

pub returns-in_ok-order-in-Order : goal.returns-in_ok-order-in-Order
returns-in_ok-order-in-Order c =
    accepted _ _ _ _ c.requires.faultless c.requires.graph (subst (IsChecked c.args.graph.now) c.in-Order.is c.in_ok-nodes.ensures) (rw (c.as_slice.ensures, c.len.ensures) at c.in_ok-order-in-Order.ensures)

pub returns-in_ok-fault-in-Loop : goal.returns-in_ok-fault-in-Loop
returns-in_ok-fault-in-Loop c =
    refused _ _ _ _ c.requires.faultless c.requires.graph (subst (IsChecked c.args.graph.now) c.in-Loop.is c.in_ok-nodes.ensures) (rw c.as_slice-in-Loop.ensures at c.in_ok-fault-in-Loop.ensures)
