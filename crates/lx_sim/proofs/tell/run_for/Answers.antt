use Rattle.std.proofs.Common.{◌∙◌, refl}
use Rattle.lx_sim.proofs.Telling.{ran_more}
use Rattle.lx_sim.proofs.tell.run_for.Goals as goal

pub loop-made-init : goal.loop-made-init
loop-made-init g c = (refl, λ m s. s)

pub loop-made-preserved : goal.loop-made-preserved
loop-made-preserved g c = (c.step.ensures.design ∙ c.loop-made.invariant.0, ran_more _ _ _ c.loop-made.made _ c.loop-made.invariant.1 c.step.ensures.shows)
