use Rattle.std.proofs.Common.{◌∙◌, sym, ap, subst, rules, arith}
use Rattle.std.specs.Prelude.{ℤ, pos}
use Rattle.std.proofs.lemmas.Int.{to_z-of_z}
use mir.Syntax.{w128}
use mir.Val.{SFits}
use Rattle.lx_num.specs.declared.Shape.{Shape}
use Rattle.lx_num.specs.Ints.{field_of, wrapped}
use Rattle.lx_trace.proofs.Shapes.{shape_is}
use Rattle.lx_sim.specs.Blocks.{IsBlockRun, IsPattern}
use Rattle.lx_sim.specs.Evaluating.{IsBlockValue}
use Rattle.lx_sim.proofs.Driven.{block_is}
use Rattle.lx_sim.proofs.Drives.{field_pattern}
use Rattle.lx_sim.proofs.Targets.{signal_is}
use Rattle.lx_sim.proofs.settle.block_value.Goals as goal

pub field-pattern-requires-clause-some : goal.field-pattern-requires-clause-some
field-pattern-requires-clause-some c = (signal_is _ _ _ c.requires.plan.keeps c.at.ensures).some

pub field-pattern-requires-clause-most : goal.field-pattern-requires-clause-most
field-pattern-requires-clause-most c = let most = (signal_is _ _ _ c.requires.plan.keeps c.at.ensures).most in omega (arith, most)

pub wrap-requires-clause-some : goal.wrap-requires-clause-some
wrap-requires-clause-some c = (signal_is _ _ _ c.requires.plan.keeps c.at.ensures).some

pub wrap-requires-clause-most : goal.wrap-requires-clause-most
wrap-requires-clause-most c = let most = (signal_is _ _ _ c.requires.plan.keeps c.at.ensures).most in omega (arith, most)

pub after_block-after-requires-clause-pattern : goal.after_block-after-requires-clause-pattern
after_block-after-requires-clause-pattern c =
    let d = c.args.plan.now.design in
    let x = c.args.x in
    let p = c.field-pattern.result in
    let fits : SFits w128 p = search rules in
    let begins = ap (λ (z : ℤ). pos (field_of z 0 c.at.result.now.shape.bits)) (to_z-of_z w128 c.args.start c.ranges.start) in
    let shaped = ap (λ (a : Shape). pos (field_of c.args.start 0 a.bits)) (sym (shape_is d x c.at.result.now c.at.ensures)) in
    subst IsPattern (sym (to_z-of_z w128 p fits)) (field_pattern d x c.args.start p c.requires.plan.keeps (c.field-pattern.ensures ∙ (begins ∙ shaped)))

pub returns : goal.returns
returns c =
    let d = c.args.plan.now.design in
    let x = c.args.x in
    let known = c.args.known.now in
    let body = c.args.body.now in
    let p = c.field-pattern.result in
    let r = c.after_block-after.result in
    let z = c.wrap.result in
    let p_fits : SFits w128 p = search rules in
    let r_fits : SFits w128 r = search rules in
    let z_fits : SFits w128 z = search rules in
    let begins = ap (λ (y : ℤ). pos (field_of y 0 c.at.result.now.shape.bits)) (to_z-of_z w128 c.args.start c.ranges.start) in
    let shaped = ap (λ (a : Shape). pos (field_of c.args.start 0 a.bits)) (sym (shape_is d x c.at.result.now c.at.ensures)) in
    let run = subst (λ (y : ℤ). IsBlockRun d x known body y r) (to_z-of_z w128 p p_fits) c.after_block-after.ensures in
    let ends = ap (wrapped c.at.result.now.shape) (to_z-of_z w128 r r_fits) ∙ ap (λ (a : Shape). wrapped a r) (sym (shape_is d x c.at.result.now c.at.ensures)) in
    subst (IsBlockValue d x known body c.args.start) (sym (to_z-of_z w128 z z_fits)) (block_is d x known body c.args.start p r z c.requires.plan.keeps (c.field-pattern.ensures ∙ (begins ∙ shaped)) run (c.wrap.ensures ∙ ends))
