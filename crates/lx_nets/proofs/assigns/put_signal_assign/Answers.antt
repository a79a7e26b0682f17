use Rattle.std.proofs.Common.{sym, ap, ◌∙◌}
use Rattle.lx_sheet.specs.Drives.{drive_of}
use Rattle.lx_nets.proofs.Assigned.{assigns_empty, assigns_push}
use Rattle.lx_nets.proofs.Driven.{assign_line, no_assign}
use Rattle.lx_nets.proofs.assigns.put_signal_assign.Goals as goal

pub returns-in_ok-value-in-Undriven : goal.returns-in_ok-value-in-Undriven
returns-in_ok-value-in-Undriven c =
    let line = ap drive_of (sym c.in-Undriven.is) ∙ c.drive.ensures.drive in
    assigns_push _ _ _ _ _ _ _ _ _ c.requires.placed c.in_ok-value-in-Undriven.ensures c.in_ok-name-in-Undriven.ensures (assign_line _ c.args.x.sheet.now.names _ _ line) c.push.ensures.ok

pub returns-in_ok-value-in-CombAssign : goal.returns-in_ok-value-in-CombAssign
returns-in_ok-value-in-CombAssign c =
    let line = ap drive_of (sym c.in-CombAssign.is) ∙ c.drive.ensures.drive in
    assigns_push _ _ _ _ _ _ _ _ _ c.requires.placed c.in_ok-value-in-CombAssign.ensures c.in_ok-name-in-CombAssign.ensures (assign_line _ c.args.x.sheet.now.names _ _ line) c.push-in-CombAssign.ensures.ok

pub returns-in-Input : goal.returns-in-Input
returns-in-Input c = assigns_empty _ _ _ c.requires.placed (no_assign _ c.args.x.sheet.now.names _ _ c.in-Input.is ∙ assign_line _ c.args.x.sheet.now.names _ _ c.drive.ensures.drive)

pub returns-in-Input-2 : goal.returns-in-Input-2
returns-in-Input-2 c = assigns_empty _ _ _ c.requires.placed (no_assign _ c.args.x.sheet.now.names _ _ c.in-Input.is ∙ assign_line _ c.args.x.sheet.now.names _ _ c.drive.ensures.drive)

pub returns-in-Input-3 : goal.returns-in-Input-3
returns-in-Input-3 c = assigns_empty _ _ _ c.requires.placed (no_assign _ c.args.x.sheet.now.names _ _ c.in-Input.is ∙ assign_line _ c.args.x.sheet.now.names _ _ c.drive.ensures.drive)
