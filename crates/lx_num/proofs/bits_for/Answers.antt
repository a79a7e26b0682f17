use Rattle.lx_num.proofs.Machine.{fewest_negative, fewest_natural}
use Rattle.lx_num.proofs.bits_for.Goals as goal

pub returns-then-v-lt0-clause-fewest : goal.returns-then-v-lt0-clause-fewest
returns-then-v-lt0-clause-fewest c =
    fewest_negative c.args.v c.magnitude.result c.length-bits.result c.ranges.v c.if-v-lt0.true c.magnitude.ensures.value c.length-bits.ensures.enough c.length-bits.ensures.fewest

pub returns-else-v-lt0-clause-fewest : goal.returns-else-v-lt0-clause-fewest
returns-else-v-lt0-clause-fewest c =
    rw c.max.ensures
    (fewest_natural c.args.v c.magnitude.result c.length-bits.result c.ranges.v c.if-v-lt0.false c.magnitude.ensures.value c.length-bits.ensures.enough c.length-bits.ensures.fewest)
