use Rattle.std.proofs.Common.{◌∙◌, ap}
use Rattle.lx_value.specs.Numbers.{ranged}
use Rattle.lx_value.proofs.Patterns.{and_is}
use Rattle.lx_value.proofs.numbers.both_bits.Goals as goal

pub returns : goal.returns
returns c = c.in_range.ensures ∙ ap ranged (and_is c.args.a c.args.b c.ranges.a c.ranges.b)
