use Rattle.lx_lower.proofs.Freedom.{free_next, free_none}
use Rattle.lx_lower.proofs.fixed.free_exprs.Goals as goal

pub loop-place-init : goal.loop-place-init
loop-place-init c = free_none _ _ c.new-free.ensures

pub loop-place-preserved : goal.loop-place-preserved
loop-place-preserved c =
    rw c.in_ok-push.ensures.ok (free_next _ _ _ _ _ c.lower.ensures c.loop-place.invariant c.get.ensures.item (rw c.as_slice.ensures at c.node_free-own.ensures))
