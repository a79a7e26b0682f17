use Rattle.std.proofs.Common.{◌<◌, ◌≤◌, length, arith}
use Rattle.lx_nets.proofs.Assigned.{assigns_next, assigns_end}
use Rattle.lx_nets.proofs.assigns.put_nodes.Goals as goal

pub loop-place-preserved : goal.loop-place-preserved
loop-place-preserved c =
    let within : c.loop-place.place < length c.args.sheet.now.design.exprs = rw (← c.sheet.view_is) (omega arith) in
    assigns_next _ _ _ _ _ _ _ _ _ within c.loop-place.invariant (rw (c.new.ensures.sheet, c.new.ensures.id) at c.in_ok-put_node_assign.ensures)

pub returns : goal.returns
returns c =
    let past : length c.args.sheet.now.design.exprs ≤ c.loop-place.place = rw (← c.sheet.view_is) (omega arith) in
    assigns_end _ _ _ _ _ _ _ past c.loop-place.invariant
