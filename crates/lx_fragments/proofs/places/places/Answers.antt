use Rattle.std.proofs.Common.{arith}
use Rattle.lx_fragments.proofs.Placed.{noted_next, noted_over}
use Rattle.lx_fragments.proofs.places.places.Goals as goal

pub loop-at-preserved : goal.loop-at-preserved
loop-at-preserved c = rw (c.note.ensures, c.in_ok-before-2.ensures) (noted_next c.args.machine.now c.args.top c.loop-at.places c.loop-at.before _ c.loop-at.at-index _ (omega (arith, c.loop-at-test.true)) c.loop-at.invariant)

pub returns : goal.returns
returns c = noted_over c.args.machine.now c.args.top c.loop-at.places c.loop-at.before _ c.loop-at.at-index (omega (arith, c.loop-at-test.false)) c.loop-at.invariant
