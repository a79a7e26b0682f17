use Rattle.std.proofs.Common.{◌<◌, length, sym, subst, rules, arith}
use Rattle.std.proofs.lemmas.Int.{to_z-of_z}
use mir.Syntax.{w128}
use mir.Val.{SFits}
use Rattle.lx_sim.specs.Evaluating.{IsNextValue}
use Rattle.lx_sim.proofs.Rising.{none_advanced, one_advanced}
use Rattle.lx_sim.proofs.Sources.{advanced}
use Rattle.lx_sim.proofs.settle.advance.Goals as goal

pub loop-x-init : goal.loop-x-init
loop-x-init c = none_advanced _ _ _ _ _ c.requires.long

pub loop-x-preserved : goal.loop-x-preserved
loop-x-preserved c =
    let z = c.next_value.result in
    let fits : SFits w128 z = search rules in
    let room : c.loop-x.x < length c.loop-x.next = omega arith in
    one_advanced _ _ _ _ _ _ _ room c.loop-x.invariant (subst (IsNextValue c.args.plan.now.design c.loop-x.x c.args.rises c.args.vals.now c.args.known.now) (sym (to_z-of_z w128 z fits)) c.next_value.ensures)

pub returns : goal.returns
returns c = advanced _ _ _ _ _ c.requires.plan c.requires.fit c.loop-x.invariant.long (λ x l. c.loop-x.invariant.each x (let long = c.loop-x.invariant.long in omega (arith, l, long)))
