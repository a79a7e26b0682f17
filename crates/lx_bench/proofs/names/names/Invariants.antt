use Rattle.lx_bench.specs.Fans.{AreNames}
use Rattle.lx_bench.proofs.names.names.Given as goal

abbrev pub invariant-loop-x : goal.invariant-loop-x
invariant-loop-x l = AreNames l.names l.x
