use Rattle.std.proofs.Common.{◌≡◌}
use Rattle.lx_sim.specs.Moments.{Moment, Shows}
use Rattle.lx_sim.specs.Said.{run_for}
use Rattle.lx_sim.proofs.tell.run_for.Given as goal

abbrev pub invariant-loop-made : goal.invariant-loop-made
invariant-loop-made g l = (l.simulator.design ≡ l.initial.simulator.design) × ((m : Moment) → Shows l.initial.simulator m → Shows l.simulator (run_for m l.made l.event.rises))
