use Rattle.lx_sim.specs.Firsts.{AreFirst}
use Rattle.lx_sim.proofs.simulator.first_values.Given as goal

abbrev pub invariant-loop-x : goal.invariant-loop-x
invariant-loop-x l = AreFirst l.plan l.x l.vals.items
