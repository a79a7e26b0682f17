use Rattle.std.proofs.Common.{ap, length, arith}
use Rattle.lx_width.proofs.Ends.{item_there}
use Rattle.lx_width.proofs.Shaped.{shapes_none, next_sound, shapes_more, all_shapes}
use Rattle.lx_width.proofs.shapes.expr_shapes.Goals as goal

pub loop-node-init : goal.loop-node-init
loop-node-init c = record { items = c.as_slice-node-items.ensures; shapes = rw c.new-shapes.ensures (shapes_none _) }

pub sound_shape-shape-requires : goal.sound_shape-shape-requires
sound_shape-shape-requires c =
    let there = item_there _ _ _ _ c.loop-node.invariant.items (omega arith) c.node-item.is in
    rw (c.as_slice.ensures, c.as_slice-signals.ensures) (next_sound _ _ _ _ c.requires c.loop-node.invariant.shapes there)

pub loop-node-preserved : goal.loop-node-preserved
loop-node-preserved c =
    let there = item_there _ _ _ _ c.loop-node.invariant.items (omega arith) c.node-item.is in
    record {
      items = c.loop-node.invariant.items;
      shapes = rw c.in_ok-push.ensures.ok (shapes_more _ _ _ _ _ c.requires c.loop-node.invariant.shapes there (rw (c.as_slice.ensures, c.as_slice-signals.ensures) at c.sound_shape-shape.ensures));
    }

pub returns : goal.returns
returns c =
    let long = ap length c.loop-node.invariant.items in
    all_shapes _ c.loop-node.node-index _ (omega arith) c.loop-node.invariant.shapes
