use Rattle.std.proofs.Common.{sym}
use Rattle.lx_sim.proofs.Drives.{driven, driven_as, is_input}
use Rattle.lx_sim.proofs.Inputs.{input_marked, other_marked}
use Rattle.lx_sim.proofs.simulator.Simulator.is_input.Goals as goal

pub returns-in-Input : goal.returns-in-Input
returns-in-Input c =
    let of = c.self.invariant.planned in
    rw (← c.self.view_is) (sym (input_marked c.self.inside.design.now c.self.inside.plan.design c.args.s.0 of.lowering (driven_as _ _ _ _ of.plan c.at.ensures c.in-Input.is)))

pub returns-in_default : goal.returns-in_default
returns-in_default c =
    let of = c.self.invariant.planned in
    rw (← c.self.view_is) (sym (other_marked c.self.inside.design.now c.self.inside.plan.design c.args.s.0 _ of.lowering (driven _ _ _ of.plan c.at.ensures) (λ e. c.in_default.not-Input (is_input _ e))))
