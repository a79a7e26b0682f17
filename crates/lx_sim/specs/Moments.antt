-- What a simulator shows: the view of a design's circuit after the steps so far.
use Rattle.std.specs.Prelude.{◌≡◌, ℕ, ℤ, pos, List, [], ◌∷◌, ◌++◌, ◌<◌, length, nat_eq, if◌then◌else◌}
use Rattle.lx_circuit.specs.Places.{Values, At}
use Rattle.lx_circuit.specs.Circuit.{Step, IsView}
use Rattle.lx_circuit.specs.Fitting.{InputsFit, StepsFit}
use Rattle.lx_fhdl.specs.Designs.{circuit_of}
use Rattle.lx_fhdl.specs.Nodes.{value_at}
use Rattle.lx_fhdl.specs.declared.design.Design.{Design}
use Rattle.lx_sim.specs.Words.{AreWords}
use Rattle.lx_trace.specs.Traces.{rises_of}

-- where a run stands: the steps so far, and the inputs from now on
pub record Moment : Type 0 where
  pub steps : List Step
  pub inputs : Values

-- no step, and all inputs are 0
abbrev pub start : Moment
start = record { steps = []; inputs = λ p. pos 0 }

-- an input has the value z from now on
abbrev pub with_input : Values → ℕ → ℤ → Values
with_input inputs x z (At y) = if nat_eq x y then z else inputs (At y)
with_input inputs x z p = inputs p

abbrev pub setting : Moment → ℕ → ℤ → Moment
setting m x z = record { steps = m.steps; inputs = with_input m.inputs x z }

-- a step in which the domains rise whose bits are set
abbrev pub stepped : Moment → ℕ → Moment
stepped m rises = record { steps = m.steps ++ record { inputs = m.inputs; rises = rises_of rises } ∷ []; inputs = m.inputs }

-- a design, a value for each of its signals, and the words of its memories
pub record Seen : Type 0 where
  pub design : Design
  pub values : List ℤ
  pub words : List (List ℤ)

-- the values are those of the signals
pub record AreValues (d : Design) (values : List ℤ) (v : Values) : Type 0 where
  pub each : (x : ℕ) → x < length d.signals → value_at values x ≡ v (At x)

-- The values and the words are those of the view at the moment, to which inputs that fit have led.
pub record Shows (s : Seen) (m : Moment) : Type 0 where
  pub steps_fit : StepsFit (circuit_of s.design) m.steps
  pub inputs_fit : InputsFit (circuit_of s.design) m.inputs
  pub view : Values
  pub is_view : IsView (circuit_of s.design) m.steps m.inputs view
  pub values : AreValues s.design s.values view
  pub words : AreWords s.words view
