use Rattle.std.proofs.Common.{ap, length, arith}
use Rattle.lx_fsm.proofs.source.Source.numeral.Goals as goal

pub id_at-requires : goal.id_at-requires
id_at-requires c =
    let long = rw (← c.self.view_is) at c.requires.long in
    let some = rw (← c.self.view_is) at c.requires.some in
    omega (arith, long, some, c.number_among-number.ensures.below, ap length c.as_slice.ensures)

pub returns : goal.returns
returns c = rw (← c.self.view_is) (rw (c.number_among-number.ensures.is, c.as_slice.ensures) at c.id_at.ensures)
