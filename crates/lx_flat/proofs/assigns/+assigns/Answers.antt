use Rattle.std.proofs.Common.{rules, ◌∙◌, ◌<◌, [], length, refl, ap, arith}
use Rattle.std.proofs.lemmas.Result.{on_ok_weaker}
use Rattle.lx_fhdl.specs.Below.{TargetId}
use Rattle.lx_circuit.specs.Terms.{Term}
use Rattle.lx_fhdl.specs.Designs.{shapes, target, term}
use Rattle.lx_fhdl.specs.Stmts.{targets_at}
use Rattle.lx_lowering.specs.Flat.{items_assigns}
use Rattle.lx_flat.proofs.Pieces.{items_done, items_more, most_as, node_as, several_items, part_added, put_target, parts_done, parts_more, rest_as, ready_for, ready_shapes, stands_as, target_below_at, whole_added}
use Rattle.lx_plain.proofs.Puts.{owned_kept, put_is, some_lines, some_start}
use Rattle.lx_plain.proofs.Sound.{grows_then, shape_kept, term_kept}
use Rattle.lx_flat.proofs.assigns.+assigns.Goals as goal

pub put_assigns-put_assignment-requires : goal.put_assigns-put_assignment-requires
put_assigns-put_assignment-requires t c = record {
  out = c.requires.ready.owned;
  target = whole_added _ _ _ _ c.requires.ready (stands_as _ _ _ _ _ c.target.ensures.stands c.in-Whole.is) (most_as _ _ _ _ _ c.target.ensures.most c.in-Whole.is);
  value = c.requires.value.there;
}

pub put_assigns-put_assignment-requires-in-Part : goal.put_assigns-put_assignment-requires-in-Part
put_assigns-put_assignment-requires-in-Part t c = record {
  out = c.requires.ready.owned;
  target = part_added _ _ _ _ _ _ c.requires.ready (stands_as _ _ _ _ _ c.target.ensures.stands c.in-Part.is) (most_as _ _ _ _ _ c.target.ensures.most c.in-Part.is);
  value = c.requires.value.there;
}

pub put_assigns-put_parts-requires : goal.put_assigns-put_parts-requires
put_assigns-put_parts-requires t c = (omega arith, (c.requires.ready, c.requires.value))

pub put_assigns-put_pick-requires : goal.put_assigns-put_pick-requires
put_assigns-put_pick-requires t c = (omega arith, (c.requires.ready, c.requires.value))

pub put_assigns-returns-in-Whole : goal.put_assigns-returns-in-Whole
put_assigns-returns-in-Whole t c =
    let same = node_as _ _ _ _ _ c.target.ensures.tree c.in-Whole.is in
    on_ok_weaker c.put_assignment.result (λ p. put_target _ c.args.line _ same p) c.put_assignment.ensures

pub put_assigns-returns-in-Part : goal.put_assigns-returns-in-Part
put_assigns-returns-in-Part t c =
    let same = node_as _ _ _ _ _ c.target.ensures.tree c.in-Part.is in
    on_ok_weaker c.put_assignment-in-Part.result (λ p. put_target _ c.args.line _ same p) c.put_assignment-in-Part.ensures

pub put_assigns-returns-in-Cat : goal.put_assigns-returns-in-Cat
put_assigns-returns-in-Cat t c =
    let same = node_as _ _ _ _ _ c.target.ensures.tree c.in-Cat.is in
    on_ok_weaker c.put_parts.result (λ p. put_target _ c.args.line _ same p) (rw c.as_slice-ids.ensures at c.put_parts.ensures)

pub put_assigns-returns-in-Pick : goal.put_assigns-returns-in-Pick
put_assigns-returns-in-Pick t c =
    let same = node_as _ _ _ _ _ c.target.ensures.tree c.in-Pick.is in
    on_ok_weaker c.put_pick.result (λ p. put_target _ c.args.line _ same p) (rw c.as_slice-ids-in-Pick.ensures at c.put_pick.ensures)

pub put_pick-invariant_of-only : goal.put_pick-invariant_of-only
put_pick-invariant_of-only t c =
    let l = target_below_at c.args.items.bound c.args.items.ids.now 0 (record { place = 0; of = record {} }) c.args.items.lower.below (omega arith) in
    record { there = omega (arith, l, c.args.items.lower.within) }

pub put_pick-put_assigns-requires : goal.put_pick-put_assigns-requires
put_pick-put_assigns-requires t c =
    let l = target_below_at c.args.items.bound c.args.items.ids.now 0 (record { place = 0; of = record {} }) c.args.items.lower.below (omega arith) in
    (omega (arith, l), (c.requires.ready, c.requires.value))

pub put_pick-invariant_of-item : goal.put_pick-invariant_of-item
put_pick-invariant_of-item t c =
    let l = target_below_at c.args.items.bound c.args.items.ids.now c.loop-number.number (record { place = 0; of = record {} }) c.args.items.lower.below (omega arith) in
    record { there = omega (arith, l, c.args.items.lower.within) }

pub put_parts-invariant_of-part : goal.put_parts-invariant_of-part
put_parts-invariant_of-part t c =
    let l = target_below_at c.args.parts.bound c.args.parts.ids.now c.loop-number.number (record { place = 0; of = record {} }) c.args.parts.lower.below (omega arith) in
    record { there = omega (arith, l, c.args.parts.lower.within) }

pub put_pick-lowered-index-requires : goal.put_pick-lowered-index-requires
put_pick-lowered-index-requires t c = record { lowered = c.requires.ready.lowered; place = omega (arith, c.args.items.there, c.requires.ready.all) }

pub put_pick-loop-number-init : goal.put_pick-loop-number-init
put_pick-loop-number-init t c = some_lines (several_items (target c.args.items.source.now.design) c.args.items.ids.now c.args.line (search rules)) (some_start _ _ _ _ c.requires.ready.owned)

pub put_pick-put_assigns-requires-in-loop-number : goal.put_pick-put_assigns-requires-in-loop-number
put_pick-put_assigns-requires-in-loop-number t c =
    let z : TargetId = record { place = 0; of = record {} } in
    let h : c.loop-number.number < length c.args.items.ids.now = omega arith in
    let l = target_below_at c.args.items.bound c.args.items.ids.now c.loop-number.number z c.args.items.lower.below h in
    let grows = c.loop-number.invariant.grows in
    (omega (arith, l), (rw c.new-own.ensures (ready_for [] c.requires.ready grows (search rules)), shape_kept grows c.requires.value))

pub put_pick-push_test-requires : goal.put_pick-push_test-requires
put_pick-push_test-requires t c = shape_kept (grows_then c.loop-number.invariant.grows c.in_ok-put_assigns.ensures.grows) c.lowered-index.ensures.shape

pub put_pick-put_under-requires : goal.put_pick-put_under-requires
put_pick-put_under-requires t c =
    let own = c.in_ok-put_assigns.ensures in
    let more = c.in_ok-cond.ensures.grows in
    record {
      out = owned_kept c.loop-number.out (grows_then own.grows more) c.loop-number.invariant.owned;
      cond = c.in_ok-cond.ensures.within;
      then_ = rw c.as_slice.ensures (owned_kept _ more own.owned);
      else_ = search rules;
    }

pub put_pick-loop-number-preserved : goal.put_pick-loop-number-preserved
put_pick-loop-number-preserved t c =
    let own = rw c.new-own.ensures at c.in_ok-put_assigns.ensures in
    let so = c.loop-number.invariant in
    let there = c.lowered-index.ensures.shape.there in
    let index = term_kept c.lowered-index.result.id.place own.grows (omega (arith, there, so.grows.stays.exprs)) ∙ term_kept c.lowered-index.result.id.place so.grows there in
    let value = term_kept c.args.value.id.place so.grows c.requires.value.there in
    let cond = rw c.item_test.ensures at c.in_ok-cond.ensures in
    items_more _ _ _ _ c.args.line _ _ _ _ _ _ c.in_ok-cond.cond.place (omega arith) (search rules) refl value index so own (ready_shapes c.requires.ready (grows_then so.grows own.grows)) cond (rw c.as_slice.ensures at c.in_ok-put_under.ensures)

pub put_pick-returns : goal.put_pick-returns
put_pick-returns t c =
    let d = c.args.items.source.now.design in
    let done = items_done _ _ c.args.items.ids.now c.loop-number.number c.args.line _ _ (omega arith) c.loop-number.invariant in
    put_is (ap (λ (i : Term). items_assigns (shapes d) 0 (targets_at (target d) c.args.items.ids.now) i (term c.args.draft.now c.args.value.id.place)) c.lowered-index.ensures.tree) done

pub put_parts-loop-number-init : goal.put_parts-loop-number-init
put_parts-loop-number-init t c = (some_start _ _ _ _ c.requires.ready.owned, c.requires.value)

pub put_parts-put_assigns-requires : goal.put_parts-put_assigns-requires
put_parts-put_assigns-requires t c =
    let z : TargetId = record { place = 0; of = record {} } in
    let h : c.loop-number.number < length c.args.parts.ids.now = omega arith in
    let l = target_below_at c.args.parts.bound c.args.parts.ids.now c.loop-number.number z c.args.parts.lower.below h in
    let so = c.loop-number.invariant.0 in
    (omega (arith, l), (ready_for _ c.requires.ready so.grows so.owned, c.loop-number.invariant.1))

pub put_parts-push_rest-requires : goal.put_parts-push_rest-requires
put_parts-push_rest-requires t c = shape_kept c.in_ok-put_assigns.ensures.grows c.loop-number.invariant.1

pub put_parts-loop-number-preserved : goal.put_parts-loop-number-preserved
put_parts-loop-number-preserved t c =
    let own = c.in_ok-put_assigns.ensures in
    let next = c.in_ok-value.ensures in
    let so = c.loop-number.invariant.0 in
    let value = c.loop-number.invariant.1 in
    let sy = ready_shapes c.requires.ready (grows_then so.grows own.grows) in
    (parts_more _ _ _ _ c.args.line _ _ _ _ (omega arith) refl (rest_as _ _ sy value.there own.grows next) so own next.grows, next.shape)

pub put_parts-returns : goal.put_parts-returns
put_parts-returns t c = parts_done _ _ c.args.parts.ids.now c.loop-number.number c.args.line _ (omega arith) c.loop-number.invariant.0
