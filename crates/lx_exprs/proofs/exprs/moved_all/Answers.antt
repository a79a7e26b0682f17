use Rattle.std.proofs.Common.{length}
use Rattle.lx_width.proofs.Widths.{part_there}
use Rattle.lx_exprs.proofs.exprs.moved_all.Goals as goal

pub moved-requires : goal.moved-requires
moved-requires c = part_there (length c.args.parts.places.now) c.args.parts.ids.now c.loop-id.id-index _ c.args.parts.below c.loop-id-test.true
