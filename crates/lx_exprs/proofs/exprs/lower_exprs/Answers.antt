use Rattle.std.proofs.Common.{◌≡◌, ◌+◌, ◌∙◌, ap, length, arith}
use Rattle.std.specs.Prelude.{Some, slice_get}
use Rattle.std.proofs.lemmas.List.{length_push}
use Rattle.lx_width.proofs.Ends.{item_there}
use Rattle.lx_plain.specs.Sources.{IsRead}
use Rattle.lx_exprs.proofs.Moved.{none_lowered, more_lowered, next_node}
use Rattle.lx_plain.proofs.Sound.{arenas}
use Rattle.lx_exprs.proofs.exprs.lower_exprs.Goals as goal

pub expr_shapes-requires : goal.expr_shapes-requires
expr_shapes-requires c = arenas _ c.requires

pub start-requires : goal.start-requires
start-requires c = record { signals = rw (c.in_ok-signals.ensures, c.as_slice.ensures) c.requires.signals; memories = rw (c.in_ok-memories.ensures, c.as_slice-2.ensures) c.requires.memories }

pub loop-node-init : goal.loop-node-init
loop-node-init c = record {
  items = c.as_slice-node-items.ensures;
  long = ap length c.new-places.ensures;
  lowered = rw (c.new-places.ensures, c.in_ok-draft.ensures) (none_lowered _ _ _ _ (c.in_ok-signals.ensures ∙ c.as_slice.ensures) (c.in_ok-memories.ensures ∙ c.as_slice-2.ensures));
}

pub new-source-requires : goal.new-source-requires
new-source-requires c =
    let most = ap length c.loop-node.invariant.items in
    rw (c.as_slice-in-loop-node.ensures, c.as_slice-sizes.ensures) (record { keeps = c.requires; sized = c.in_ok-shapes.ensures; most = omega (arith, c.loop-node.invariant.long) })

pub lower_expr-requires : goal.lower_expr-requires
lower_expr-requires c =
    let there = item_there _ _ _ _ c.loop-node.invariant.items (omega arith) c.node-item.is in
    let most = ap length c.loop-node.invariant.items in
    let read : IsRead (record { design = c.args.design.now; shapes = c.as_slice-sizes.result.now; places = c.loop-node.places }) = rw c.as_slice-sizes.ensures (record { keeps = c.requires; sized = c.in_ok-shapes.ensures; most = omega (arith, c.loop-node.invariant.long) }) in
    let last : slice_get c.args.design.now.exprs (length c.loop-node.places) ≡ Some c.node-item.result = rw c.loop-node.invariant.long there in
    record {
      lowered = rw (c.new-source.ensures, c.as_slice-in-loop-node.ensures) c.loop-node.invariant.lowered;
      node = rw (c.new-source.ensures, c.as_slice-in-loop-node.ensures) (next_node _ _ read last);
    }

pub loop-node-preserved : goal.loop-node-preserved
loop-node-preserved c =
    let there = item_there _ _ _ _ c.loop-node.invariant.items (omega arith) c.node-item.is in
    let most = ap length c.loop-node.invariant.items in
    let read : IsRead (record { design = c.args.design.now; shapes = c.as_slice-sizes.result.now; places = c.loop-node.places }) = rw c.as_slice-sizes.ensures (record { keeps = c.requires; sized = c.in_ok-shapes.ensures; most = omega (arith, c.loop-node.invariant.long) }) in
    let last : slice_get c.args.design.now.exprs (length c.loop-node.places) ≡ Some c.node-item.result = rw c.loop-node.invariant.long there in
    let one : length c.push.new.self ≡ c.loop-node.node-index + 1 = ap length c.in_ok-push.ensures.ok ∙ length_push _ _ ∙ ap (λ k. k + 1) c.loop-node.invariant.long in
    record {
      items = c.loop-node.invariant.items;
      long = one;
      lowered = rw c.in_ok-push.ensures.ok (more_lowered _ _ _ _ _ read c.loop-node.invariant.lowered last (rw c.new-source.ensures at c.in_ok-place.ensures));
    }

pub returns : goal.returns
returns c =
    let long : length c.loop-node.places ≡ length c.args.design.now.exprs = omega (arith, c.loop-node.invariant.long, ap length c.loop-node.invariant.items) in
    record {
      shapes = c.in_ok-shapes.ensures;
      long = long;
      lowered = rw c.as_slice-sizes.ensures at c.loop-node.invariant.lowered;
    }
