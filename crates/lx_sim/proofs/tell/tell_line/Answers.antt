use Rattle.std.proofs.Common.{refl, subst, rules}
use Rattle.std.specs.Prelude.{ℤ}
use Rattle.std.proofs.lemmas.Int.{to_z-of_z}
use mir.Syntax.{w128}
use mir.Val.{SFits}
use Rattle.lx_sim.specs.Moments.{Moment, Shows, setting}
use Rattle.lx_sim.proofs.Telling.{run_tells, set_tells, show_tells}
use Rattle.lx_sim.proofs.tell.tell_line.Goals as goal

pub returns-in-Set-clause-tells : goal.returns-in-Set-clause-tells
returns-in-Set-clause-tells g c =
    let fits : SFits w128 c.in-Set.value = search rules in
    let shows = subst (λ (z : ℤ). (m : Moment) → Shows c.args.simulator.now m → Shows c.set.new.self (setting m c.in-Set.x.0 z)) (to_z-of_z w128 c.in-Set.value fits) c.set.ensures.shows in
    rw c.in-Set.is (set_tells _ _ _ _ _ _ shows)

pub returns-in-Run-clause-tells : goal.returns-in-Run-clause-tells
returns-in-Run-clause-tells g c = rw c.in-Run.is (run_tells _ _ _ _ _ _ _ refl c.run_for.ensures.shows)

pub returns-in_ok-tell-in-Show-clause-tells : goal.returns-in_ok-tell-in-Show-clause-tells
returns-in_ok-tell-in-Show-clause-tells g c =
    let fits : SFits w128 c.value-value.result = search rules in
    rw c.in-Show.is (show_tells _ _ _ _ _ _ _ _ _ (rw c.in-Show.is at c.requires.line) c.at.ensures c.as_bytes.ensures c.value-value.ensures (to_z-of_z w128 c.value-value.result fits) c.in_ok-tell-in-Show.ensures)
