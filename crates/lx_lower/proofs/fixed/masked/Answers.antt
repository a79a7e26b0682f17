use Rattle.std.proofs.Common.{◌<◌, length, arith}
use Rattle.lx_lower.proofs.Masks.{mask_below, mask_next, mask_none}
use Rattle.lx_lower.proofs.fixed.masked.Goals as goal

pub loop-place-init : goal.loop-place-init
loop-place-init c = mask_none _ _ _ _ c.new-mask.ensures

pub push-requires : goal.push-requires
push-requires c = rw c.loop-place.invariant.long (mask_below _ _ _ _ _ c.in_ok-node.ensures c.get.ensures.lower)

pub loop-place-preserved : goal.loop-place-preserved
loop-place-preserved c =
    let within : c.loop-place.place < length c.args.exprs.now = omega (arith, c.len-place-end.ensures) in
    mask_next _ _ _ _ _ _ _ _ _ _ c.loop-place.invariant c.get.ensures.item c.free_at-own.ensures (omega (arith, c.requires)) c.in_ok-node.ensures c.in_ok-push.ensures.ok.1
