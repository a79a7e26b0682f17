use Rattle.std.proofs.Common.{◌+◌, ◌-◌, ◌≡◌, ◌<◌, length, arith}
use Rattle.lx_width.proofs.Widths.{part_there}
use Rattle.lx_nets.proofs.Puts.{parts_more}
use Rattle.lx_nets.proofs.exprs.put_parts.Goals as goal

pub put_operand-requires : goal.put_operand-requires
put_operand-requires c =
    let h : c.loop-place.place - 1 < length c.args.parts.now = omega arith in
    part_there (length c.args.sheet.now.design.exprs) c.args.parts.now (c.loop-place.place - 1) _ c.requires h

pub loop-place-preserved : goal.loop-place-preserved
loop-place-preserved c =
    let h : c.loop-place.place - 1 < length c.args.parts.now = omega arith in
    let e : c.loop-place.place ≡ c.loop-place.place - 1 + 1 = omega arith in
    rw c.in_ok-push.ensures.ok (parts_more _ _ _ _ c.args.parts.now (c.loop-place.place - 1) _ _ _ h (rw e at c.loop-place.invariant) c.in_ok-text.ensures)
