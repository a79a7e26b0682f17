use Rattle.std.proofs.Common.{sym, subst, rules}
use Rattle.std.proofs.lemmas.Int.{to_z-of_z}
use mir.Syntax.{w128}
use mir.Val.{SFits}
use Rattle.lx_sim.specs.Firsts.{IsFirst}
use Rattle.lx_sim.proofs.Firsts.{none_first, one_first}
use Rattle.lx_sim.proofs.simulator.first_values.Goals as goal

pub loop-x-init : goal.loop-x-init
loop-x-init c = none_first _ _ c.new-vals.ensures.items

pub loop-x-preserved : goal.loop-x-preserved
loop-x-preserved c =
    let z = c.first_value.result in
    let fits : SFits w128 z = search rules in
    one_first _ _ _ _ _ c.loop-x.invariant (subst (IsFirst c.args.plan.now c.loop-x.x) (sym (to_z-of_z w128 z fits)) c.first_value.ensures) c.in_ok-push.ensures.items
