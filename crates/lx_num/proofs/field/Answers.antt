use Rattle.std.proofs.Common.{◌∙◌, ap, pos}
use Rattle.std.specs.Int.{w128}
use Rattle.std.proofs.lemmas.Int.{to_z_pos}
use Rattle.lx_num.proofs.Machine.{fits_half, pattern_fits, shifted_field}
use Rattle.lx_num.proofs.field.Goals as goal

pub overflow_cast-result : goal.overflow_cast-result
overflow_cast-result c = pattern_fits c.args.len c.pattern.result c.requires.most c.pattern.ensures.bound

pub returns : goal.returns
returns c =
    to_z_pos w128 c.pattern.result (fits_half c.args.len c.pattern.result c.requires.most c.pattern.ensures.bound)
    ∙ ap pos (shifted_field c.args.v c.args.low c.args.len c.pattern.result c.ranges.v c.pattern.ensures.value)
