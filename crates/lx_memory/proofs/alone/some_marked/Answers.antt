use Rattle.std.proofs.Common.{sym}
use Rattle.lx_memory.proofs.Apart.{found_mark, no_mark}
use Rattle.lx_memory.proofs.alone.some_marked.Goals as goal

pub returns-then-at : goal.returns-then-at
returns-then-at c = sym (found_mark c.args.marks.now c.args.driven.now c.loop-one.one-index c.at.result.now c.loop-one-test.true c.at.ensures c.if-at.true)

pub loop-one-preserved : goal.loop-one-preserved
loop-one-preserved c = no_mark c.args.marks.now c.args.driven.now c.loop-one.one-index c.at.result.now c.loop-one-test.true c.at.ensures c.if-at.false c.loop-one.invariant
