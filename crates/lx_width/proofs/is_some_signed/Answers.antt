use Rattle.std.proofs.Common.{length}
use Rattle.lx_width.proofs.Widths.{part_there}
use Rattle.lx_width.proofs.is_some_signed.Goals as goal

pub shape_of-requires-in-loop-part : goal.shape_of-requires-in-loop-part
shape_of-requires-in-loop-part c = part_there (length c.args.shapes.now) c.args.parts.now c.loop-part.part-index _ c.requires c.loop-part-test.true
