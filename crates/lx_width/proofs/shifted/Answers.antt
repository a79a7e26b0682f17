use Rattle.lx_width.proofs.Widths.{far_shift}
use Rattle.lx_width.proofs.shifted.Goals as goal

pub returns-else-b-lt32 : goal.returns-else-b-lt32
returns-else-b-lt32 c = far_shift c.args.a.bits c.args.b.bits c.if-b-lt32.false
