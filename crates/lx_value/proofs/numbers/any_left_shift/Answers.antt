use Rattle.std.proofs.Common.{sym}
use Rattle.lx_value.proofs.Ranges.{far_shift, nonzero}
use Rattle.lx_value.proofs.numbers.any_left_shift.Goals as goal

pub returns-else-a-eq0 : goal.returns-else-a-eq0
returns-else-a-eq0 c =
    sym (far_shift c.args.a c.args.places (nonzero c.args.a c.ranges.a c.if-a-eq0.false) c.if-places-lt127.false)
