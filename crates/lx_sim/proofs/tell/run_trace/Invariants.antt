use Rattle.lx_sim.proofs.Telling.{ToldTo}
use Rattle.lx_sim.proofs.tell.run_trace.Given as goal

abbrev pub invariant-loop-line : goal.invariant-loop-line
invariant-loop-line g l = ToldTo l.names l.lines l.line-index l.initial.simulator l.simulator l.telling
