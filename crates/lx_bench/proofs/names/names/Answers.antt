use Rattle.lx_bench.proofs.Named.{names_more}
use Rattle.lx_bench.proofs.names.names.Goals as goal

pub loop-x-preserved : goal.loop-x-preserved
loop-x-preserved c = rw (c.in_ok-push.ensures.ok, c.in_ok-name.ensures) (names_more _ _ c.loop-x.invariant)
