use Rattle.lx_describe.proofs.Asked.{asked_more}
use Rattle.lx_describe.proofs.fsms.asked_of.Goals as goal

pub loop-place-preserved : goal.loop-place-preserved
loop-place-preserved c = rw c.in_ok-push_asked.ensures (asked_more c.args.fsm.now.asked c.loop-place.place c.loop-place.list _ c.loop-place.invariant)
