use Rattle.std.proofs.Common.{◌<◌, ◌∙◌, length, refl, ap, arith}
use Rattle.std.specs.Prelude.{Some}
use Rattle.std.proofs.lemmas.Result.{on_ok_weaker}
use Rattle.lx_fhdl.specs.Below.{TargetId}
use Rattle.lx_reads.proofs.Adding.{cat_added, index_fits, items_added, part_added, targets_more, whole_added}
use Rattle.lx_reads.proofs.Items.{target_below_at}
use Rattle.lx_reads.proofs.targets.+targets.Goals as goal

pub add_target-overflow_add-len : goal.add_target-overflow_add-len
add_target-overflow_add-len t c =
    let l = index_fits c.args.design.now c.args.net.now _ _ _ c.requires.net (c.get.ensures.item ∙ ap Some c.in-Pick.is) in
    omega (arith, l, c.requires.net.exprs, c.requires.net.fits)

pub add_target-returns-in-Whole : goal.add_target-returns-in-Whole
add_target-returns-in-Whole t c = on_ok_weaker c.push.result (λ e. whole_added _ _ _ _ _ _ c.requires.net (c.get.ensures.item ∙ ap Some c.in-Whole.is) e refl) c.push.ensures.ok

pub add_target-returns-in-Part : goal.add_target-returns-in-Part
add_target-returns-in-Part t c = on_ok_weaker c.push-in-Part.result (λ e. part_added _ _ _ _ _ _ _ _ c.requires.net (c.get.ensures.item ∙ ap Some c.in-Part.is) e refl) c.push-in-Part.ensures.ok

pub add_target-returns-in-Cat : goal.add_target-returns-in-Cat
add_target-returns-in-Cat t c = on_ok_weaker c.add_targets.result (λ p. cat_added _ _ _ _ _ _ c.requires.net (c.get.ensures.item ∙ ap Some c.in-Cat.is) p) (rw c.as_slice.ensures at c.add_targets.ensures)

pub add_target-returns-in_ok-push-in-Pick : goal.add_target-returns-in_ok-push-in-Pick
add_target-returns-in_ok-push-in-Pick t c =
    on_ok_weaker c.add_targets-in-Pick.result (λ p. items_added _ _ _ _ _ _ _ _ c.requires.net (c.get.ensures.item ∙ ap Some c.in-Pick.is) refl (rw c.len.ensures at c.in_ok-push-in-Pick.ensures.ok) p) (rw c.as_slice-in-Pick.ensures at c.add_targets-in-Pick.ensures)

pub add_targets-add_target-requires : goal.add_targets-add_target-requires
add_targets-add_target-requires t c =
    let z : TargetId = record { place = 0; of = record {} } in
    let h : c.loop-id.id-index < length c.args.ids.now = omega arith in
    let l = target_below_at c.args.bound c.args.ids.now c.loop-id.id-index z c.requires.below h in
    (omega (arith, l), (c.requires.net, omega (arith, l, c.requires.bound)))

pub add_targets-loop-id-preserved : goal.add_targets-loop-id-preserved
add_targets-loop-id-preserved t c = targets_more _ _ _ c.args.ids.now c.loop-id.id-index _ _ _ _ _ (omega arith) c.loop-id.invariant c.in_ok-add_target.ensures
