-- A module that follows a circuit agrees with it after every run: step by step both settle in exactly
-- one way, and what is settled for the one has the patterns of what is settled for the other.
use Rattle.std.proofs.Common.{ℕ, List, [], ◌∷◌, sym, ◌∙◌, ap}
use Rattle.lx_num.proofs.Ranges.{read_bits-modulo}
use Rattle.lx_circuit.specs.Places.{Values, At}
use Rattle.lx_circuit.specs.Circuit.{Circuit, Step, shapes, IsSettled, ViewFrom, next_state, first_state}
use Rattle.lx_circuit.specs.Fitting.{InputsFit, StateFits, StepsFit, KeepsShapes}
use Rattle.lx_circuit.specs.Reads.{HasOrder}
use Rattle.lx_circuit.proofs.Fitting.{settled_fits, next_state_fits, first_state_fits}
use Rattle.lx_circuit.proofs.Views.{viewed_once}
use Rattle.lx_vtext.specs.Tree.{Name, VModule}
use Rattle.lx_vmeaning.specs.Meaning.{Valuation}
use Rattle.lx_vmeaning.specs.Runs.{VStep, IsVSettled, VViewFrom, v_next, v_first}
use Rattle.lx_vmeaning.specs.Cycle.{HasCycleMeaning}
use Rattle.lx_vmeaning.proofs.Views as v_views
use Rattle.lx_agree.specs.Agreement.{Naming, number, SameInputs, SameSteps, SameView, Agrees}
use Rattle.lx_agree.specs.Following.{SameState, SameValues, Follows}

-- whatever patterns are settled, they are the signals'
pub settled_same : (c : Circuit) (m : VModule) (names : Naming) → HasCycleMeaning m → Follows c m names → (state inputs v : Values) (v_state : Valuation) (v_inputs : Name → ℕ) (w : Valuation)
    → StateFits c state → InputsFit c inputs → SameState c names state v_state → SameInputs c names inputs v_inputs → IsSettled c state inputs v → IsVSettled m v_state v_inputs w → SameValues c names v w
settled_same c m names h f state inputs v v_state v_inputs w fits i s t p q =
    let one = v_views.settling m h v_state v_inputs in
    let found = f.settles state inputs v v_state v_inputs fits i s t p in
    let other = one.only w q in
    let same = one.only found.0 found.1 in
    record {
      signals = λ x lt. other.nets (names.net x) ∙ (sym (same.nets (names.net x)) ∙ found.2.signals x lt);
      words = λ j k lt. other.words (names.memory j) k ∙ (sym (same.words (names.memory j) k) ∙ found.2.words j k lt);
    }

-- the same, from a state on
from_same : (c : Circuit) (m : VModule) (names : Naming) → KeepsShapes c → HasCycleMeaning m → Follows c m names → (steps : List Step) (v_steps : List VStep) (state inputs v : Values) (v_state : Valuation) (v_inputs : Name → ℕ) (w : Valuation)
    → StateFits c state → StepsFit c steps → InputsFit c inputs → SameState c names state v_state → SameSteps c names steps v_steps → SameInputs c names inputs v_inputs
    → ViewFrom c state steps inputs v → VViewFrom m v_state v_steps v_inputs w → SameView c names v w
from_same c m names k h f [] [] state inputs v v_state v_inputs w fits sf i s ss t p q =
    let same = settled_same c m names h f state inputs v v_state v_inputs w fits i s t p q in
    record {
      signals = λ x lt.
          sym (read_bits-modulo (shapes c x).bits (shapes c x).signed (v (At x)) (k.each x).some ((settled_fits c k state inputs v fits i p).signals x))
          ∙ ap (λ (n : ℕ). number c x n) (sym (same.signals x lt));
      words = same.words;
    }
from_same c m names k h f [] (b ∷ bs) state inputs v v_state v_inputs w fits sf i s ss t p q = absurd ss
from_same c m names k h f (a ∷ as_) [] state inputs v v_state v_inputs w fits sf i s ss t p q = absurd ss
from_same c m names k h f (a ∷ as_) (b ∷ bs) state inputs v v_state v_inputs w fits sf i s ss t p q =
    let same = settled_same c m names h f state a.inputs p.0 v_state b.inputs q.0 fits sf.0 s ss.0.inputs p.1 q.1 in
    let next = f.steps state a.inputs p.0 v_state q.0 b.inputs a.rises b.rises fits sf.0 s ss.0.inputs p.1 q.1 same ss.0.rises in
    from_same c m names k h f as_ bs (next_state c state p.0 a.rises) inputs v (v_next m v_state q.0 b.rises) v_inputs w (next_state_fits c k state p.0 a.rises fits (settled_fits c k state a.inputs p.0 fits sf.0 p.1)) sf.1 i next ss.1 t p.2 q.2

pub agrees : (c : Circuit) (m : VModule) (names : Naming) → KeepsShapes c → HasOrder c → HasCycleMeaning m → Follows c m names → Agrees c m names
agrees c m names k o h f = record {
  declares = f.declares;
  view = λ steps inputs. let once = viewed_once c o steps inputs in (once.values, once.view);
  v_view = λ steps inputs. let once = v_views.viewed_once m h steps inputs in (once.values, once.view);
  same = λ steps inputs v_steps v_inputs run v w p q. from_same c m names k h f steps v_steps (first_state c) inputs v (v_first m) v_inputs w (first_state_fits c k) run.fitting_steps run.fitting_inputs f.starts run.same_steps run.same_inputs p q;
}
