use Rattle.lx_value.proofs.Ranges.{shifted_is}
use Rattle.lx_value.proofs.numbers.any_right_shift.Goals as goal

pub returns : goal.returns
returns c = shifted_is c.args.a c.args.places c.min.result c.ranges.a c.requires c.min.ensures
