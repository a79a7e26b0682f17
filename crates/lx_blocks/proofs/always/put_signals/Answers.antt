use Rattle.std.proofs.Common.{◌<◌, ◌≤◌, length, arith}
use Rattle.lx_blocks.proofs.Blocked.{always_end, always_next, always_none}
use Rattle.lx_blocks.proofs.always.put_signals.Goals as goal

pub loop-x-init : goal.loop-x-init
loop-x-init c = always_none _ _ c.requires

pub put_signal-requires : goal.put_signal-requires
put_signal-requires c = record { blocks = c.loop-x.invariant.placed }

pub loop-x-preserved : goal.loop-x-preserved
loop-x-preserved c =
    let within : c.loop-x.x < length c.args.sheet.now.design.signals = rw (← c.sheet.view_is) (omega arith) in
    always_next _ _ _ _ _ _ _ _ _ within c.loop-x.invariant (rw (c.new.ensures.sheet, c.new.ensures.id) at c.in_ok-put_signal.ensures)

pub returns : goal.returns
returns c =
    let past : length c.args.sheet.now.design.signals ≤ c.loop-x.x = rw (← c.sheet.view_is) (omega arith) in
    always_end _ _ _ _ _ _ _ past c.loop-x.invariant
