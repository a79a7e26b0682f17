use Rattle.std.proofs.Common.{◌≡◌, ◌∙◌, ◌<◌, sym, subst, arith, length}
use Rattle.std.specs.Prelude.{ℤ}
use Rattle.std.specs.Int.{w128}
use mir.Val.{to_z, of_z}
use Rattle.std.proofs.lemmas.Int.{to_z-of_z}
use Rattle.lx_num.specs.Ints.{Fits}
use Rattle.lx_fhdl.specs.Nodes.{IsFit, shape_at}
use Rattle.lx_arena.proofs.Places.{lower_at}
use Rattle.lx_fhdl.specs.Below.{expr_below}
use Rattle.lx_fhdl.proofs.Arena.{each_child}
use Rattle.lx_fhdl.proofs.Frames.{fits_kept, values_kept}
use Rattle.lx_fhdl.proofs.eval.eval_into.Goals as goal

pub eval_node-requires-clause-children : goal.eval_node-requires-clause-children
eval_node-requires-clause-children g c =
    λ x e. each_child (IsFit c.args.shapes.now c.loop-place.into) c.loop-place.place x c.loop-place.invariant.fits (lower_at expr_below c.args.exprs.now c.lower.ensures c.loop-place.place x e)

pub loop-place-preserved : goal.loop-place-preserved
loop-place-preserved g c =
    let same : to_z w128 (of_z w128 c.eval_node.result) ≡ c.eval_node.result = to_z-of_z w128 c.eval_node.result (record { sfits = c.eval_node.type_inv }) in
    let within : c.loop-place.place < length c.loop-place.into = omega arith in
    let P : ℤ → Type 0 = λ z. Fits (shape_at c.args.shapes.now c.loop-place.place) z in
    record {
      values = values_kept c.args.exprs.now c.args.shapes.now c.args.vals.now c.loop-place.into c.loop-place.place (to_z w128 (of_z w128 c.eval_node.result)) c.lower.ensures within c.loop-place.invariant.values (λ x e. same ∙ c.eval_node.ensures.value x e);
      fits = fits_kept c.args.shapes.now c.loop-place.into c.loop-place.place (to_z w128 (of_z w128 c.eval_node.result)) within c.loop-place.invariant.fits (subst P (sym same) c.eval_node.ensures.fits);
      cost = omega (arith, c.eval_node.ensures.cost);
    }
