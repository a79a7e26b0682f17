use Rattle.std.proofs.Common.{arith}
use Rattle.lx_parts_kept.proofs.Counts.{counts_done, counts_more, counts_none}
use Rattle.lx_parts_kept.proofs.modules.count_all.Goals as goal

pub loop-number-init : goal.loop-number-init
loop-number-init c = counts_none _ c.requires.none

pub loop-number-preserved : goal.loop-number-preserved
loop-number-preserved c = counts_more _ c.args.numbers.now c.loop-number.number-index _ _ _ c.loop-number-test.true c.count_one.ensures c.loop-number.invariant

pub returns : goal.returns
returns c = counts_done _ c.args.numbers.now _ _ (omega arith) c.loop-number.invariant
