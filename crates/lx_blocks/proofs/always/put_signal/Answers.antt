use Rattle.std.proofs.Common.{Some, refl, sym, ap, ◌∙◌, arith}
use Rattle.std.specs.Prelude.{slice_get}
use Rattle.lx_emission.specs.Naming.{clock_of}
use Rattle.lx_sheet.specs.Plans.{Plan}
use Rattle.lx_sheet.specs.Drives.{drive_of}
use Rattle.lx_blocks.proofs.Blocked.{always_empty, always_push}
use Rattle.lx_blocks.proofs.Driven.{always_line, no_always}
use Rattle.lx_blocks.proofs.always.put_signal.Goals as goal

pub put_combined-requires : goal.put_combined-requires
put_combined-requires c =
    rw c.as_slice.ensures (record { within = omega arith; below = rw c.in-CombBlock.is at c.drive.ensures.there; plain = rw c.in-CombBlock.is at c.drive.ensures.plain })

pub put_clocked-requires-clause-body : goal.put_clocked-requires-clause-body
put_clocked-requires-clause-body c =
    rw c.as_slice-in-Sync.ensures (record { within = omega arith; below = (rw c.in-Sync.is at c.drive.ensures.there).1; plain = rw c.in-Sync.is at c.drive.ensures.plain })

pub returns-in_ok-body-in-CombBlock : goal.returns-in_ok-body-in-CombBlock
returns-in_ok-body-in-CombBlock c =
    let line = ap drive_of (sym c.in-CombBlock.is) ∙ c.drive.ensures.drive in
    always_push _ _ _ _ _ _ _ _ _ c.requires.blocks (rw c.as_slice.ensures at c.in_ok-body-in-CombBlock.ensures) refl (always_line _ c.args.x.sheet.now.names _ _ line) c.push.ensures.ok

pub returns-in_ok-body-in-Sync : goal.returns-in_ok-body-in-Sync
returns-in_ok-body-in-Sync c =
    let line = ap drive_of (sym c.in-Sync.is) ∙ c.drive.ensures.drive in
    let clock = c.in_ok-clock-in-Sync.ensures ∙ ap clock_of (sym c.at.ensures) in
    always_push _ _ _ _ _ _ _ _ _ c.requires.blocks (rw c.as_slice-in-Sync.ensures at c.in_ok-body-in-Sync.ensures) (ap Some (clock ∙ ap (λ (p : Plan). clock_of (slice_get p.design.domains c.in-Sync.domain)) c.sheet.view_is)) (always_line _ c.args.x.sheet.now.names _ _ line) c.push-in-Sync.ensures.ok

pub returns-in-Input : goal.returns-in-Input
returns-in-Input c = always_empty _ _ _ c.requires.blocks (no_always _ c.args.x.sheet.now.names _ _ c.in-Input.is ∙ always_line _ c.args.x.sheet.now.names _ _ c.drive.ensures.drive)

pub returns-in-Input-2 : goal.returns-in-Input-2
returns-in-Input-2 c = always_empty _ _ _ c.requires.blocks (no_always _ c.args.x.sheet.now.names _ _ c.in-Input.is ∙ always_line _ c.args.x.sheet.now.names _ _ c.drive.ensures.drive)

pub returns-in-Input-3 : goal.returns-in-Input-3
returns-in-Input-3 c = always_empty _ _ _ c.requires.blocks (no_always _ c.args.x.sheet.now.names _ _ c.in-Input.is ∙ always_line _ c.args.x.sheet.now.names _ _ c.drive.ensures.drive)
