use Rattle.lx_fragments.proofs.Bodies.{bodies_more}
use Rattle.lx_fragments.proofs.states.bodies.Goals as goal

pub loop-number-preserved : goal.loop-number-preserved
loop-number-preserved c = rw c.in_ok-push_body.ensures (bodies_more c.args.fsm.now c.args.fsm.now.names c.loop-number.number c.loop-number.list _ c.loop-number.invariant)
