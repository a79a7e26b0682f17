-- How a module follows a circuit, settled valuation by settled valuation: the premise of agreement.
use Rattle.std.specs.Prelude.{◌≡◌, ℕ, Bool, ◌<◌, length}
use Rattle.lx_circuit.specs.Places.{Values, At}
use Rattle.lx_circuit.specs.Circuit.{Circuit, Sync, role, IsSettled, next_state, first_state}
use Rattle.lx_circuit.specs.Fitting.{InputsFit, StateFits, KeepsShapes}
use Rattle.lx_circuit.specs.Reads.{HasOrder}
use Rattle.lx_vtext.specs.Tree.{Name, VModule}
use Rattle.lx_vmeaning.specs.Meaning.{Valuation}
use Rattle.lx_vmeaning.specs.Runs.{IsVSettled, v_next, v_first}
use Rattle.lx_vmeaning.specs.Cycle.{HasCycleMeaning}
use Rattle.lx_agree.specs.Agreement.{Naming, pattern, SameInputs, SameWords, Declares, Agrees}

-- each registered signal's net has its pattern, and each word
pub record SameState (c : Circuit) (names : Naming) (state : Values) (v_state : Valuation) : Type 0 where
  pub signals : (x d : ℕ) → role c x ≡ Sync d → v_state.nets (names.net x) ≡ pattern c x (state (At x))
  pub words : SameWords c names state v_state

-- each signal's net has its pattern, and each word
pub record SameValues (c : Circuit) (names : Naming) (v : Values) (w : Valuation) : Type 0 where
  pub signals : (x : ℕ) → x < length c.signals → w.nets (names.net x) ≡ pattern c x (v (At x))
  pub words : SameWords c names v w

-- where states and inputs are the same, settled values have settled patterns that are theirs
abbrev pub Settles : Circuit → VModule → Naming → Type 0
Settles c m names =
    (state inputs v : Values) (v_state : Valuation) (v_inputs : Name → ℕ)
    → StateFits c state → InputsFit c inputs → SameState c names state v_state → SameInputs c names inputs v_inputs
    → IsSettled c state inputs v
    → (w : Valuation) × IsVSettled m v_state v_inputs w × SameValues c names v w

-- and the states after a step are the same
abbrev pub Steps : Circuit → VModule → Naming → Type 0
Steps c m names =
    (state inputs v : Values) (v_state w : Valuation) (v_inputs : Name → ℕ) (rises : ℕ → Bool) (v_rises : Name → Bool)
    → StateFits c state → InputsFit c inputs → SameState c names state v_state → SameInputs c names inputs v_inputs
    → IsSettled c state inputs v → IsVSettled m v_state v_inputs w → SameValues c names v w
    → ((d : ℕ) → d < length c.domains → v_rises (names.clock d) ≡ rises d)
    → SameState c names (next_state c state v rises) (v_next m v_state w v_rises)

pub record Follows (c : Circuit) (m : VModule) (names : Naming) : Type 0 where
  pub declares : Declares c m names
  pub settles : Settles c m names
  pub steps : Steps c m names
  pub starts : SameState c names (first_state c) (v_first m)

-- A module that has a cycle meaning and follows a circuit agrees with it after every run.
abbrev pub IsAgreementLaw : Type 0
IsAgreementLaw =
    (c : Circuit) (m : VModule) (names : Naming)
    → KeepsShapes c → HasOrder c → HasCycleMeaning m → Follows c m names → Agrees c m names
