use Rattle.std.proofs.Common.{List, ◌∙◌, sym, ap, subst, rules, arith}
use Rattle.std.specs.Prelude.{ℤ, pos, slice_index_or}
use Rattle.std.proofs.lemmas.Int.{to_z-of_z}
use mir.Syntax.{w128}
use mir.Val.{SFits}
use Rattle.lx_num.specs.declared.Shape.{Shape}
use Rattle.lx_num.specs.Ints.{wrapped}
use Rattle.lx_circuit.specs.Circuit.{Made, made}
use Rattle.lx_fhdl.specs.Below.{StmtId}
use Rattle.lx_fhdl.specs.Designs.{circuit_of, shapes}
use Rattle.lx_sheet.proofs.Owners.{made_is}
use Rattle.lx_trace.proofs.Shapes.{shape_is}
use Rattle.lx_sim.specs.Evaluating.{IsBlockValue, IsCombValue}
use Rattle.lx_sim.proofs.Driven.{comb_assign, comb_block, comb_other}
use Rattle.lx_sim.proofs.Drives.{driven, driven_as, is_assign, is_block}
use Rattle.lx_sim.proofs.Targets.{signal_is}
use Rattle.lx_sim.proofs.Owned.{comb_is_own, comb_is_there, side_is_there}
use Rattle.lx_sim.proofs.settle.comb_value.Goals as goal

pub known_at-requires : goal.known_at-requires
known_at-requires c = side_is_there _ _ _ _ c.requires.plan.keeps c.requires.plan.lowered c.requires.fit.exprs (driven_as _ _ _ _ c.requires.plan c.at.ensures c.in-CombAssign.is)

pub wrap-requires-clause-some : goal.wrap-requires-clause-some
wrap-requires-clause-some c = (signal_is _ _ _ c.requires.plan.keeps c.at-signal.ensures).some

pub wrap-requires-clause-most : goal.wrap-requires-clause-most
wrap-requires-clause-most c = let most = (signal_is _ _ _ c.requires.plan.keeps c.at-signal.ensures).most in omega (arith, most)

pub block_value-requires-clause-block : goal.block_value-requires-clause-block
block_value-requires-clause-block c = rw c.as_slice.ensures (comb_is_own _ _ _ _ c.requires.plan.keeps c.requires.plan.lowered c.requires.fit.exprs (driven_as _ _ _ _ c.requires.plan c.at.ensures c.in-CombBlock.is))

pub block_value-requires-clause-below : goal.block_value-requires-clause-below
block_value-requires-clause-below c = rw c.as_slice.ensures (comb_is_there _ _ _ c.requires.plan.keeps (driven_as _ _ _ _ c.requires.plan c.at.ensures c.in-CombBlock.is))

pub returns-in-CombAssign : goal.returns-in-CombAssign
returns-in-CombAssign c =
    let d = c.args.plan.now.design in
    let x = c.args.x in
    let k = c.known_at.result in
    let z = c.wrap.result in
    let k_fits : SFits w128 k = search rules in
    let z_fits : SFits w128 z = search rules in
    let taken = ap (wrapped c.at-signal.result.now.shape) (to_z-of_z w128 k k_fits) ∙ (ap (λ (a : Shape). wrapped a k) (sym (shape_is d x c.at-signal.result.now c.at-signal.ensures)) ∙ ap (wrapped (shapes d x)) c.known_at.ensures) in
    subst (IsCombValue d x c.args.vals.now c.args.known.now) (sym (to_z-of_z w128 z z_fits))
    (comb_assign d x c.args.vals.now c.args.known.now c.in-CombAssign.value z c.requires.plan.keeps c.requires.plan.lowered c.requires.there (driven_as _ _ _ _ c.requires.plan c.at.ensures c.in-CombAssign.is) (c.wrap.ensures ∙ taken))

pub returns-in-CombBlock : goal.returns-in-CombBlock
returns-in-CombBlock c =
    let d = c.args.plan.now.design in
    let x = c.args.x in
    let known = c.args.known.now in
    let s = c.at-signal.result.now.reset in
    let z = c.block_value.result in
    let s_fits : SFits w128 s = search rules in
    let z_fits : SFits w128 z = search rules in
    let from = to_z-of_z w128 s s_fits ∙ sym (ap (λ (m : Made). m.reset) (made_is d x c.at-signal.result.now c.at-signal.ensures)) in
    let value = subst (λ (ids : List StmtId). IsBlockValue d x known ids (made (circuit_of d) x).reset z) c.as_slice.ensures (subst (λ (y : ℤ). IsBlockValue d x known c.as_slice.result.now y z) from c.block_value.ensures) in
    subst (IsCombValue d x c.args.vals.now known) (sym (to_z-of_z w128 z z_fits))
    (comb_block d x c.args.vals.now known c.in-CombBlock.body z c.requires.plan.keeps c.requires.plan.lowered (driven_as _ _ _ _ c.requires.plan c.at.ensures c.in-CombBlock.is) value)

pub returns-in_default : goal.returns-in_default
returns-in_default c =
    let d = c.args.plan.now.design in
    let x = c.args.x in
    let z = slice_index_or c.args.vals.now x (pos 0) in
    let fits : SFits w128 z = search rules in
    comb_other d x c.args.vals.now c.args.known.now _ _ (driven _ _ _ c.requires.plan c.at.ensures) (λ ids e. c.in_default.not-CombBlock ids (is_block _ ids e)) (λ v e. c.in_default.not-CombAssign v (is_assign _ v e)) (to_z-of_z w128 z fits) (c.requires.fit.signals_fit x c.requires.there)
