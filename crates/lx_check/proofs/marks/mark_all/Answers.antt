use Rattle.std.proofs.Common.{arith}
use Rattle.lx_reads.specs.declared.net.Driven.{Driven}
use Rattle.lx_check.proofs.Marking.{below_at, marks_done, marks_more, marks_none}
use Rattle.lx_check.proofs.marks.mark_all.Goals as goal

pub loop-one-init : goal.loop-one-init
loop-one-init c = marks_none _ c.requires.none

pub mark_one-requires : goal.mark_one-requires
mark_one-requires c =
    let z : Driven = record { signal = 0; driver = 0; line = 0; node = 0 } in
    let l = below_at _ c.args.driven.now c.loop-one.one-index z c.requires.below c.loop-one-test.true in
    omega (arith, l, c.loop-one.invariant.long)

pub loop-one-preserved : goal.loop-one-preserved
loop-one-preserved c = marks_more _ c.args.driven.now c.loop-one.one-index _ _ _ c.loop-one-test.true c.requires.below c.mark_one.ensures c.loop-one.invariant

pub returns : goal.returns
returns c = marks_done _ _ c.args.driven.now _ (omega arith) c.loop-one.invariant
