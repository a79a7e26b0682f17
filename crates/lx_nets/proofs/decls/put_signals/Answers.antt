use Rattle.std.proofs.Common.{◌<◌, length, arith}
use Rattle.lx_sheet.proofs.Lines.{pieces_next}
use Rattle.lx_nets.proofs.decls.put_signals.Goals as goal

pub loop-x-preserved : goal.loop-x-preserved
loop-x-preserved c =
    let within : c.loop-x.x < length c.args.sheet.now.design.signals = rw (← c.sheet.view_is) (omega arith) in
    pieces_next _ _ _ _ _ _ within c.loop-x.invariant (rw (c.new.ensures.sheet, c.new.ensures.id) at c.in_ok-put_signal.ensures)
