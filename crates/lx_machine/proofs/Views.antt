-- Exactly one view of a system after every list of steps, and where its run ended.
use Rattle.std.proofs.Common.{◌≡◌, List, [], ◌∷◌, refl, subst}
use Rattle.std.proofs.Math.Path.{fun_ext}
use Rattle.lx_circuit.specs.Places.{Place, Values}
use Rattle.lx_circuit.specs.Circuit.{Step}
use Rattle.lx_machine.specs.System.{System}
use Rattle.lx_machine.specs.Views.{State, IsSystemSettled, SystemViewFrom, IsSystemView, Runs, first_system, system_next, HasSystemOrder}
use Rattle.lx_machine.specs.Settling.{SystemViewedOnce, RanTo}
use Rattle.lx_machine.proofs.Settle.{settles_once}

-- a view from a state, and no other
pub record FromOnce (y : System) (st : State) (steps : List Step) (inputs : Values) : Type 0 where
  pub values : Values
  pub view : SystemViewFrom y st steps inputs values
  pub only : (v : Values) → SystemViewFrom y st steps inputs v → (p : Place) → v p ≡ values p

unfoldable pub from_once : (y : System) → HasSystemOrder y → (st : State) (steps : List Step) (inputs : Values) → FromOnce y st steps inputs
from_once y o st [] inputs =
    let one = settles_once y o st inputs in
    record { values = one.values; view = one.settled; only = one.only }
from_once y o st (t ∷ ts) inputs =
    let one = settles_once y o st t.inputs in
    let later = from_once y o (system_next y st one.values t.rises) ts inputs in
    record {
      values = later.values;
      view = (one.values, one.settled, later.view);
      only = λ v h p. later.only v (let same : h.0 ≡ one.values = fun_ext (one.only h.0 h.1) in subst (λ (w : Values). SystemViewFrom y (system_next y st w t.rises) ts inputs v) same h.2) p;
    }

unfoldable pub viewed_once : (y : System) → HasSystemOrder y → (steps : List Step) (inputs : Values) → SystemViewedOnce y steps inputs
viewed_once y o steps inputs =
    let once = from_once y o (first_system y) steps inputs in
    record { values = once.values; view = once.view; only = once.only }

-- ---- views and runs

record RanFrom (y : System) (st : State) (steps : List Step) (inputs v : Values) : Type 0 where
  values : List Values
  state : State
  ran : Runs y st steps values state
  settled : IsSystemSettled y state inputs v

ran_from : (y : System) (st : State) (steps : List Step) (inputs v : Values) → SystemViewFrom y st steps inputs v → RanFrom y st steps inputs v
ran_from y st [] inputs v h = record { values = []; state = st; ran = refl; settled = h }
ran_from y st (t ∷ ts) inputs v h =
    let later = ran_from y (system_next y st h.0 t.rises) ts inputs v h.2 in
    record { values = h.0 ∷ later.values; state = later.state; ran = (h.1, later.ran); settled = later.settled }

pub view_ran : (y : System) (steps : List Step) (inputs v : Values) → IsSystemView y steps inputs v → RanTo y steps inputs v
view_ran y steps inputs v h =
    let r = ran_from y (first_system y) steps inputs v h in
    record { values = r.values; state = r.state; ran = r.ran; settled = r.settled }

view_from : (y : System) (st : State) (steps : List Step) (ws : List Values) (new : State) (inputs v : Values) → Runs y st steps ws new → IsSystemSettled y new inputs v → SystemViewFrom y st steps inputs v
view_from y st [] [] new inputs v r s = subst (λ (z : State). IsSystemSettled y z inputs v) r s
view_from y st [] (w ∷ ws) new inputs v r s = absurd r
view_from y st (t ∷ ts) [] new inputs v r s = absurd r
view_from y st (t ∷ ts) (w ∷ ws) new inputs v r s = (w, r.0, view_from y (system_next y st w t.rises) ts ws new inputs v r.1 s)

pub ran_view : (y : System) (steps : List Step) (inputs v : Values) → RanTo y steps inputs v → IsSystemView y steps inputs v
ran_view y steps inputs v r = view_from y (first_system y) steps r.values r.state inputs v r.ran r.settled
