use Rattle.std.proofs.Common.{rules, sym, ap, subst, ◌∙◌, arith}
use Rattle.std.specs.Prelude.{ℤ, Some}
use Rattle.std.proofs.lemmas.Int.{to_z-of_z}
use mir.Syntax.{w128}
use mir.Val.{SFits, of_z, to_z}
use Rattle.lx_num.specs.declared.Shape.{Shape}
use Rattle.lx_num.specs.Fields.{with_field_of}
use Rattle.lx_trace.proofs.Shapes.{shape_is}
use Rattle.lx_sim.specs.Blocks.{IsTargetRun}
use Rattle.lx_sim.proofs.Patterns.{part_run, whole_run}
use Rattle.lx_sim.proofs.Targets.{no_cat, no_pick, part_some, part_within, signal_is, whole_there}
use Rattle.lx_sim.proofs.blocks.after_target.Goals as goal

pub at-requires : goal.at-requires
at-requires c = whole_there _ _ _ _ c.requires.target (c.get.ensures.item ∙ ap Some c.in-Whole.is)

pub with_field-requires-clause-some : goal.with_field-requires-clause-some
with_field-requires-clause-some c = (signal_is _ _ _ c.requires.target.keeps c.at.ensures).some

pub with_field-requires-clause-end : goal.with_field-requires-clause-end
with_field-requires-clause-end c = let most = (signal_is _ _ _ c.requires.target.keeps c.at.ensures).most in omega (arith, most)

pub with_field-requires-in-Part-clause-some : goal.with_field-requires-in-Part-clause-some
with_field-requires-in-Part-clause-some c = part_some _ _ _ _ _ _ c.requires.target (c.get.ensures.item ∙ ap Some c.in-Part.is)

pub with_field-requires-in-Part-clause-end : goal.with_field-requires-in-Part-clause-end
with_field-requires-in-Part-clause-end c = part_within _ _ _ _ _ _ c.requires.target (c.get.ensures.item ∙ ap Some c.in-Part.is)

pub unreachable-requires : goal.unreachable-requires
unreachable-requires c = no_cat _ _ _ _ c.requires.target (c.get.ensures.item ∙ ap Some c.in-Cat.is)

pub unreachable-requires-in-Pick : goal.unreachable-requires-in-Pick
unreachable-requires-in-Pick c = no_pick _ _ _ _ _ c.requires.target (c.get.ensures.item ∙ ap Some c.in-Pick.is)

pub returns-in-Whole : goal.returns-in-Whole
returns-in-Whole c =
    let d = c.args.design.now in
    let p = c.args.pattern in
    let n = c.args.number in
    let r = c.with_field.result in
    let fits : SFits w128 r = search rules in
    let same = to_z-of_z w128 r fits in
    let from = ap (λ (q : ℤ). with_field_of q 0 c.at.result.now.shape.bits (to_z w128 (of_z w128 n))) (to_z-of_z w128 p c.ranges.pattern) in
    let into = ap (with_field_of p 0 c.at.result.now.shape.bits) (to_z-of_z w128 n c.ranges.number) in
    let shaped = ap (λ (a : Shape). with_field_of p 0 a.bits n) (sym (shape_is d c.in-Whole.signal.0 c.at.result.now c.at.ensures)) in
    subst (IsTargetRun d c.args.x c.args.id n p) (sym same)
    (whole_run d c.args.x c.args.id c.in-Whole.signal n p r c.requires.target.keeps (c.get.ensures.item ∙ ap Some c.in-Whole.is) c.requires.target.alone
    (c.with_field.ensures.value ∙ (from ∙ (into ∙ shaped))) c.with_field.ensures.from_zero c.with_field.ensures.within)

pub returns-in-Part : goal.returns-in-Part
returns-in-Part c =
    let d = c.args.design.now in
    let p = c.args.pattern in
    let n = c.args.number in
    let low = c.in-Part.low in
    let len = c.in-Part.len in
    let r = c.with_field-in-Part.result in
    let fits : SFits w128 r = search rules in
    let same = to_z-of_z w128 r fits in
    let from = ap (λ (q : ℤ). with_field_of q low len (to_z w128 (of_z w128 n))) (to_z-of_z w128 p c.ranges.pattern) in
    let into = ap (with_field_of p low len) (to_z-of_z w128 n c.ranges.number) in
    subst (IsTargetRun d c.args.x c.args.id n p) (sym same)
    (part_run d c.args.x c.args.id c.in-Part.signal low len n p r c.requires.target.keeps (c.get.ensures.item ∙ ap Some c.in-Part.is) c.requires.target.alone (c.with_field-in-Part.ensures.value ∙ (from ∙ into)) c.with_field-in-Part.ensures.from_zero c.with_field-in-Part.ensures.within)
