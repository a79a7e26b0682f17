use Rattle.lx_fsm_kept.proofs.Deeper.{target_next}
use Rattle.lx_fsm_kept.proofs.Tables.{table_none}
use Rattle.lx_fsm_kept.proofs.depths.target_depths.Goals as goal

pub loop-place-init : goal.loop-place-init
loop-place-init c = table_none _ _ _ c.new-depths.ensures

pub loop-place-preserved : goal.loop-place-preserved
loop-place-preserved c =
    rw c.in_ok-push.ensures.ok (target_next c.args.design.now _ _ _ _ c.lower.ensures c.loop-place.invariant c.get.ensures.item (rw c.as_slice.ensures at c.target_deep-depth.ensures))
