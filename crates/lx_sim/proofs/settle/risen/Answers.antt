use Rattle.std.proofs.Common.{◌∙◌, sym, subst, rules}
use Rattle.std.specs.Prelude.{ℤ, pos, slice_index_or}
use Rattle.std.proofs.lemmas.Int.{to_z-of_z}
use mir.Syntax.{w128}
use mir.Val.{SFits}
use Rattle.lx_sim.specs.Evaluating.{IsBlockValue, IsRisen}
use Rattle.lx_sim.proofs.Rising.{risen_on, risen_reset}
use Rattle.lx_sim.proofs.settle.risen.Goals as goal

pub returns-then-is_to_reset : goal.returns-then-is_to_reset
returns-then-is_to_reset c =
    let s = c.at.result.now.reset in
    let fits : SFits w128 s = search rules in
    subst (IsRisen c.args.plan.now.design c.args.x c.args.domain c.args.vals.now c.args.known.now c.args.body.now) (sym (to_z-of_z w128 s fits))
    (risen_reset _ _ _ _ _ _ _ c.requires.plan.keeps c.at.ensures (sym c.is_to_reset.ensures ∙ c.if-is_to_reset.true))

pub returns-else-is_to_reset : goal.returns-else-is_to_reset
returns-else-is_to_reset c =
    let d = c.args.plan.now.design in
    let old = slice_index_or c.args.vals.now c.args.x (pos 0) in
    let z = c.block_value.result in
    let old_fits : SFits w128 old = search rules in
    let fits : SFits w128 z = search rules in
    subst (IsRisen d c.args.x c.args.domain c.args.vals.now c.args.known.now c.args.body.now) (sym (to_z-of_z w128 z fits))
    (risen_on d c.args.x c.args.domain c.args.vals.now c.args.known.now c.args.body.now z (sym c.is_to_reset.ensures ∙ c.if-is_to_reset.false)
    (subst (λ (y : ℤ). IsBlockValue d c.args.x c.args.known.now c.args.body.now y z) (to_z-of_z w128 old old_fits) c.block_value.ensures))
