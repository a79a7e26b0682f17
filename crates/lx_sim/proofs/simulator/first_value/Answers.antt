use Rattle.std.proofs.Common.{sym, subst, rules}
use Rattle.std.proofs.lemmas.Int.{to_z-of_z}
use mir.Syntax.{w128}
use mir.Val.{SFits}
use Rattle.lx_sim.specs.Firsts.{IsFirst}
use Rattle.lx_sim.proofs.Drives.{driven, driven_as, is_input}
use Rattle.lx_sim.proofs.Firsts.{first_input, first_other}
use Rattle.lx_sim.proofs.simulator.first_value.Goals as goal

pub returns-in-Input : goal.returns-in-Input
returns-in-Input c = first_input _ _ c.requires.plan (driven_as _ _ _ _ c.requires.plan c.at.ensures c.in-Input.is)

pub returns-in_default : goal.returns-in_default
returns-in_default c =
    let z = c.at-in_default.result.now.reset in
    let fits : SFits w128 z = search rules in
    subst (IsFirst c.args.plan.now c.args.x) (sym (to_z-of_z w128 z fits)) (first_other _ _ _ _ c.requires.plan c.at-in_default.ensures (driven _ _ _ c.requires.plan c.at.ensures) (λ e. c.in_default.not-Input (is_input _ e)))
