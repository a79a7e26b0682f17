use Rattle.std.proofs.Common.{length}
use Rattle.lx_width.proofs.Widths.{part_there}
use Rattle.lx_width.proofs.widest_of.Goals as goal

pub shape_of-requires-in-loop-item : goal.shape_of-requires-in-loop-item
shape_of-requires-in-loop-item c = part_there (length c.args.shapes.now) c.args.items.now c.loop-item.item-index _ c.requires c.loop-item-test.true
