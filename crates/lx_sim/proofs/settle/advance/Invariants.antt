use Rattle.lx_sim.proofs.Rising.{AdvancesTo}
use Rattle.lx_sim.proofs.settle.advance.Given as goal

abbrev pub invariant-loop-x : goal.invariant-loop-x
invariant-loop-x l = AdvancesTo l.plan l.x l.rises l.vals l.known l.next
