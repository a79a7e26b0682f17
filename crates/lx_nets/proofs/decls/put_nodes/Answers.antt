use Rattle.std.proofs.Common.{◌<◌, length, arith}
use Rattle.lx_sheet.proofs.Lines.{pieces_next}
use Rattle.lx_nets.proofs.decls.put_nodes.Goals as goal

pub loop-place-preserved : goal.loop-place-preserved
loop-place-preserved c =
    let within : c.loop-place.place < length c.args.sheet.now.design.exprs = rw (← c.sheet.view_is) (omega arith) in
    pieces_next _ _ _ _ _ _ within c.loop-place.invariant (rw (c.new.ensures.sheet, c.new.ensures.id) at c.in_ok-put_node.ensures)
