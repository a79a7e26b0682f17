use Rattle.std.proofs.Common.{◌<◌, length, arith}
use Rattle.lx_drives.proofs.Owners.{filled_next, filled_none}
use Rattle.lx_sheet.proofs.Owners.{plain_at, there_at}
use Rattle.lx_drives.proofs.drives.fill.Goals as goal

pub loop-id-init : goal.loop-id-init
loop-id-init c = filled_none _ _ _

pub signal_of-signal-requires-clause-place : goal.signal_of-signal-requires-clause-place
signal_of-signal-requires-clause-place c = there_at _ c.args.ids.now _ _ c.requires.there c.loop-id-test.true

pub signal_of-signal-requires-clause-plain : goal.signal_of-signal-requires-clause-plain
signal_of-signal-requires-clause-plain c = plain_at c.args.lowered.now c.args.ids.now _ _ c.requires.plain c.loop-id-test.true

pub loop-id-preserved : goal.loop-id-preserved
loop-id-preserved c =
    let within : c.signal_of-signal.result.0 < length c.loop-id.drives = omega (arith, c.signal_of-signal.ensures.there, c.loop-id.invariant.long, c.requires.long) in
    filled_next _ _ c.args.ids.now _ _ _ _ _ c.index-drives-signal.result _ c.requires.none c.loop-id-test.true c.signal_of-signal.ensures.alone within c.loop-id.invariant c.index-drives-signal.is (rw (← c.index-drives-signal.is) at c.in_ok-add.ensures)
