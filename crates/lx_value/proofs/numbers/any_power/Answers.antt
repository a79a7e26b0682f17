use Rattle.std.proofs.Common.{◌∙◌}
use Rattle.lx_value.proofs.Ranges.{short_power}
use Rattle.lx_value.proofs.numbers.any_power.Goals as goal

pub returns : goal.returns
returns c = c.short_power.ensures ∙ short_power c.args.a c.args.exponent c.short_exponent.result c.ranges.a c.short_exponent.ensures
