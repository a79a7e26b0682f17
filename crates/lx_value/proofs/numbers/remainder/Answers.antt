use Rattle.lx_value.proofs.Ranges.{remainder_down}
use Rattle.lx_value.proofs.numbers.remainder.Goals as goal

pub returns-then-b-lt0 : goal.returns-then-b-lt0
returns-then-b-lt0 c =
    remainder_down c.args.a c.args.b c.rem_euclid.result c.in_range.result c.requires.first c.requires.second
    c.if-b-lt0.true c.rem_euclid.ensures.value c.rem_euclid.ensures.upper_bound c.in_range.ensures
