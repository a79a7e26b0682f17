-- Circuits with the same runs, and circuits that extend others by further signals.
use Rattle.std.specs.Prelude.{◌≡◌, ℕ, Bool, List, Option, Some, ◌<◌, ◌≤◌}
use Rattle.lx_circuit.specs.Places.{Place, Values, At, Word}
use Rattle.lx_circuit.specs.Circuit.{Circuit, Step, IsSettled, next_state, first_state, IsView}
use Rattle.lx_circuit.specs.Reads.{HasOrder}
use Rattle.lx_circuit.specs.Fitting.{KeepsShapes, InputsFit, StepsFit, StateFits}

-- every run: for all inputs that fit, what is a view of the one is a view of the other
pub record HaveSameRuns (c e : Circuit) : Type 0 where
  pub there : (steps : List Step) (inputs : Values) → StepsFit c steps → InputsFit c inputs → (v : Values) → IsView c steps inputs v → IsView e steps inputs v
  pub back : (steps : List Step) (inputs : Values) → StepsFit c steps → InputsFit c inputs → (v : Values) → IsView e steps inputs v → IsView c steps inputs v

-- the same on the signals below n and on all words
pub record Same (n : ℕ) (v w : Values) : Type 0 where
  pub signals : (x : ℕ) → x < n → v (At x) ≡ w (At x)
  pub words : (m k : ℕ) → v (Word m k) ≡ w (Word m k)

-- The second circuit extends the first by signals from n on: inputs that fit stay such, and to each view of the one there is
-- one of the other, after the same steps, that is the same on the signals below n and on all words.
pub record Extends (n : ℕ) (c e : Circuit) : Type 0 where
  pub inputs : (i : Values) → InputsFit c i → InputsFit e i
  pub there : (steps : List Step) (inputs : Values) → StepsFit c steps → InputsFit c inputs → (v : Values) → IsView c steps inputs v → (w : Values) × IsView e steps inputs w × Same n v w
  pub back : (steps : List Step) (inputs : Values) → StepsFit c steps → InputsFit c inputs → (w : Values) → IsView e steps inputs w → (v : Values) × IsView c steps inputs v × Same n v w

-- A simulation, one step at a time: under states that stand in a relation each circuit settles as the other does, on the
-- signals below n and on all words, and the states after any step stand in the relation again.
pub record StepsWith (n : ℕ) (c e : Circuit) (R : Values → Values → Type 0) : Type 0 where
  pub keeps : KeepsShapes c
  pub inputs : (i : Values) → InputsFit c i → InputsFit e i
  pub first : R (first_state c) (first_state e)
  pub there : (s t i v : Values) → StateFits c s → InputsFit c i → R s t → IsSettled c s i v
      → (w : Values) × IsSettled e t i w × Same n v w × ((rises : ℕ → Bool) → R (next_state c s v rises) (next_state e t w rises))
  pub back : (s t i w : Values) → StateFits c s → InputsFit c i → R s t → IsSettled e t i w
      → (v : Values) × IsSettled c s i v × Same n v w × ((rises : ℕ → Bool) → R (next_state c s v rises) (next_state e t w rises))

-- The same for circuits that settle in one way: under states that stand in the relation, any two settled valuations are the
-- same on the signals below n and on all words.
pub record Simulates (n : ℕ) (c e : Circuit) (R : Values → Values → Type 0) : Type 0 where
  pub keeps : KeepsShapes c
  pub order : HasOrder c
  pub other_order : HasOrder e
  pub inputs : (i : Values) → InputsFit c i → InputsFit e i
  pub first : R (first_state c) (first_state e)
  pub step : (s t i v w : Values) → StateFits c s → InputsFit c i → R s t → IsSettled c s i v → IsSettled e t i w
      → Same n v w × ((rises : ℕ → Bool) → R (next_state c s v rises) (next_state e t w rises))

-- each place of the one state that stands for a place of the other has the value of that place
abbrev pub Matches : (Place → Option Place) → Values → Values → Type 0
Matches to s t = (p q : Place) → to p ≡ Some q → s p ≡ t q

-- A simulation makes an extension.
abbrev pub IsExtensionLaw : Type 0
IsExtensionLaw = (n : ℕ) (c e : Circuit) (to : Place → Option Place) → StepsWith n c e (Matches to) → Extends n c e

-- So does one of circuits that settle in one way.
abbrev pub IsSimulationLaw : Type 0
IsSimulationLaw = (n : ℕ) (c e : Circuit) (to : Place → Option Place) → Simulates n c e (Matches to) → Extends n c e

-- An extension of an extension is one, on the signals of the first.
abbrev pub IsChainLaw : Type 0
IsChainLaw = (n m : ℕ) (c d e : Circuit) → n ≤ m → Extends n c d → Extends m d e → Extends n c e
