use Rattle.lx_blocks.proofs.Parted.{target_stands, not_many}
use Rattle.lx_blocks.proofs.stmts.make_target.Goals as goal

pub new-signal-requires : goal.new-signal-requires
new-signal-requires c = rw (← c.sheet.view_is) (target_stands _ _ _ _ c.sheet.invariant.fit.keeps c.get.ensures.item c.in-Whole.is)

pub new-requires : goal.new-requires
new-requires c = rw (← c.sheet.view_is) (target_stands _ _ _ _ c.sheet.invariant.fit.keeps c.get.ensures.item c.in-Part.is).0

pub part-requires : goal.part-requires
part-requires c = (target_stands _ _ _ _ c.sheet.invariant.fit.keeps c.get.ensures.item c.in-Part.is).1

pub unreachable-requires : goal.unreachable-requires
unreachable-requires c = not_many _ _ _ c.sheet.invariant.fit.keeps (rw (← c.sheet.view_is) at c.requires.plain) c.get.ensures.item c.in-Cat.is
