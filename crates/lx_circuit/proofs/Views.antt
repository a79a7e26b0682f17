-- Exactly one view after every list of steps.
use Rattle.std.proofs.Common.{◌≡◌, List, [], ◌∷◌, subst}
use Rattle.std.proofs.Math.Path.{fun_ext}
use Rattle.lx_circuit.specs.Places.{Place, Values}
use Rattle.lx_circuit.specs.Circuit.{Circuit, Step, next_state, first_state, ViewFrom}
use Rattle.lx_circuit.specs.Reads.{HasOrder}
use Rattle.lx_circuit.specs.Settling.{ViewedOnce}
use Rattle.lx_circuit.proofs.Settle.{settles_once}

-- a view from a state, and no other
pub record FromOnce (c : Circuit) (state : Values) (steps : List Step) (inputs : Values) : Type 0 where
  pub values : Values
  pub view : ViewFrom c state steps inputs values
  pub only : (v : Values) → ViewFrom c state steps inputs v → (p : Place) → v p ≡ values p

unfoldable pub from_once : (c : Circuit) → HasOrder c → (state : Values) (steps : List Step) (inputs : Values) → FromOnce c state steps inputs
from_once c o state [] inputs =
    let one = settles_once c o state inputs in
    record { values = one.values; view = one.settled; only = one.only }
from_once c o state (t ∷ ts) inputs =
    let one = settles_once c o state t.inputs in
    let later = from_once c o (next_state c state one.values t.rises) ts inputs in
    record {
      values = later.values;
      view = (one.values, one.settled, later.view);
      only = λ v h p. later.only v (let same : h.0 ≡ one.values = fun_ext (one.only h.0 h.1) in subst (λ (w : Values). ViewFrom c (next_state c state w t.rises) ts inputs v) same h.2) p;
    }

unfoldable pub viewed_once : (c : Circuit) → HasOrder c → (steps : List Step) (inputs : Values) → ViewedOnce c steps inputs
viewed_once c o steps inputs =
    let once = from_once c o (first_state c) steps inputs in
    record { values = once.values; view = once.view; only = once.only }
