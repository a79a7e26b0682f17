use Rattle.std.proofs.Common.{◌∙◌, sym}
use Rattle.std.specs.Int.{w128}
use Rattle.std.proofs.lemmas.Int.{to_z_pos}
use Rattle.lx_num.proofs.Machine.{fits_half, pattern_fits, read_low, read_unsigned}
use Rattle.lx_num.proofs.read.Goals.{else-s-via-then-s+else-power-pattern, else-s-via-else-s}
use Rattle.lx_num.proofs.read.Goals as goal

pub overflow_cast-result-else-s : goal.overflow_cast-result-else-s
overflow_cast-result-else-s c = pattern_fits c.args.s.bits c.args.pattern c.requires.most c.requires.below

pub returns-else-s : goal.returns-else-s
returns-else-s c =
    to_z_pos w128 c.args.pattern (fits_half c.args.s.bits c.args.pattern c.requires.most c.requires.below)
    ∙ sym (elim c.else-s.branch [
      | else-s-via-then-s+else-power-pattern w ↦ read_low c.args.s.bits c.args.s.signed c.args.pattern w.power.result w.if-s.true w.power.ensures w.if-power-pattern.false
      | else-s-via-else-s w ↦ read_unsigned c.args.s.bits c.args.s.signed c.args.pattern w.if-s.false
    ])
