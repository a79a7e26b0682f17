use Rattle.std.proofs.Common.{refl}
use Rattle.lx_reads.proofs.Nets.{driven_more}
use Rattle.lx_reads.proofs.walk.put_driven.Goals as goal

pub loop-signal-preserved : goal.loop-signal-preserved
loop-signal-preserved c =
    driven_more _ _ _ _ c.args.signals.now c.loop-signal.signal-index _ _ c.loop-signal-test.true c.requires.there c.requires.node refl refl c.in_ok-push.ensures.ok c.loop-signal.invariant
