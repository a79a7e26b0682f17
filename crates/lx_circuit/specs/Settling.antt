-- The law of settling, and that values fit.
use Rattle.std.specs.Prelude.{◌≡◌, List}
use Rattle.lx_circuit.specs.Places.{Place, Values}
use Rattle.lx_circuit.specs.Circuit.{Circuit, Step, IsSettled, IsView}
use Rattle.lx_circuit.specs.Reads.{HasOrder}
use Rattle.lx_circuit.specs.Fitting.{KeepsShapes, InputsFit, StepsFit, ValuesFit}

-- settled values, and no others
pub record SettlesOnce (c : Circuit) (state inputs : Values) : Type 0 where
  pub values : Values
  pub settled : IsSettled c state inputs values
  pub only : (v : Values) → IsSettled c state inputs v → (p : Place) → v p ≡ values p

-- A circuit with an order of its reads settles in exactly one way, whatever the state and the inputs.
abbrev pub IsSettlingLaw : Type 0
IsSettlingLaw = (c : Circuit) → HasOrder c → (state inputs : Values) → SettlesOnce c state inputs

-- a view, and no other
pub record ViewedOnce (c : Circuit) (steps : List Step) (inputs : Values) : Type 0 where
  pub values : Values
  pub view : IsView c steps inputs values
  pub only : (v : Values) → IsView c steps inputs v → (p : Place) → v p ≡ values p

-- So it has exactly one view after every list of steps.
abbrev pub IsViewLaw : Type 0
IsViewLaw = (c : Circuit) → HasOrder c → (steps : List Step) (inputs : Values) → ViewedOnce c steps inputs

-- Where the inputs of all steps fit, every signal of every view fits its shape, every word is a number of its memory's
-- bits, and so is what every port shows.
abbrev pub IsFittingLaw : Type 0
IsFittingLaw = (c : Circuit) → KeepsShapes c → (steps : List Step) (inputs : Values) → StepsFit c steps → InputsFit c inputs → (v : Values) → IsView c steps inputs v → ValuesFit c v
