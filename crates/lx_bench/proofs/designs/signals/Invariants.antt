use Rattle.lx_bench.specs.Fans.{AreSignals}
use Rattle.lx_bench.proofs.designs.signals.Given as goal

abbrev pub invariant-loop-made : goal.invariant-loop-made
invariant-loop-made l = AreSignals l.signals l._made
