use Rattle.lx_sim.proofs.Without.{none_without, one_without, without_below}
use Rattle.lx_sim.proofs.masks.exprs_without_words.Goals as goal

pub loop-place-init : goal.loop-place-init
loop-place-init c = none_without _ _ c.new-list.ensures

pub push-requires : goal.push-requires
push-requires c = rw c.loop-place.invariant.long (without_below _ _ _ c.in_ok-node.ensures c.get.ensures.lower)

pub loop-place-preserved : goal.loop-place-preserved
loop-place-preserved c = one_without _ _ _ _ _ _ c.loop-place.invariant c.get.ensures.item c.in_ok-node.ensures c.in_ok-push.ensures.ok.1
