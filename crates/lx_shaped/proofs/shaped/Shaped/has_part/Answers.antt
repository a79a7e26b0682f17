use Rattle.std.proofs.Common.{sym}
use Rattle.lx_shaped.proofs.Calls.{part_in, part_out}
use Rattle.lx_shaped.proofs.shaped.Shaped.has_part.Goals as goal

pub returns-then-len-ge1 : goal.returns-then-len-ge1
returns-then-len-ge1 c =
    let there = rw (c.design.ensures.is, c.self.view_is) at c.in-Some.ensures in
    part_in c.args.self.now c.args.x.0 c.args.low c.args.len c.in-Some.signal.now (sym there) c.if-len-ge1.true

pub returns-in-None : goal.returns-in-None
returns-in-None c =
    let there = rw (c.design.ensures.is, c.self.view_is) at c.in-None.ensures in
    part_out c.args.self.now c.args.x.0 _ (sym there)
