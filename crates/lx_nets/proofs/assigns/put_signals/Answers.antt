use Rattle.std.proofs.Common.{◌<◌, ◌≤◌, length, arith}
use Rattle.lx_nets.proofs.Assigned.{assigns_next, assigns_end}
use Rattle.lx_nets.proofs.assigns.put_signals.Goals as goal

pub loop-x-preserved : goal.loop-x-preserved
loop-x-preserved c =
    let within : c.loop-x.x < length c.args.sheet.now.design.signals = rw (← c.sheet.view_is) (omega arith) in
    assigns_next _ _ _ _ _ _ _ _ _ within c.loop-x.invariant (rw (c.new.ensures.sheet, c.new.ensures.id) at c.in_ok-put_signal_assign.ensures)

pub returns : goal.returns
returns c =
    let past : length c.args.sheet.now.design.signals ≤ c.loop-x.x = rw (← c.sheet.view_is) (omega arith) in
    assigns_end _ _ _ _ _ _ _ past c.loop-x.invariant
