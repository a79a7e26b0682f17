use Rattle.std.proofs.Common.{sym, ap, ◌∙◌}
use Rattle.lx_emission.specs.Naming.{node_name}
use Rattle.lx_emission.specs.Emission.{is_net_node}
use Rattle.lx_nets.proofs.Assigned.{assigns_push, no_node_assign, node_line}
use Rattle.lx_nets.proofs.assigns.put_node_assign.Goals as goal

pub put_node-requires : goal.put_node-requires
put_node-requires c = record { operator = ap is_net_node c.expr.ensures.item ∙ sym c.has_net.ensures ∙ c.if-not-has_net.false }

pub returns-then-not-has_net : goal.returns-then-not-has_net
returns-then-not-has_net c = no_node_assign _ _ _ _ _ _ c.expr.ensures.item (sym c.has_net.ensures ∙ c.if-not-has_net.true) c.requires.placed

pub returns : goal.returns
returns c =
    assigns_push _ _ _ _ _ _ _ _ _ c.requires.placed c.in_ok-value.ensures (c.in_ok-name.ensures ∙ ap node_name c.number.ensures) (node_line _ _ _ _ c.expr.ensures.item (sym c.has_net.ensures ∙ c.if-not-has_net.false)) c.push.ensures.ok
