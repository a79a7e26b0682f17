-- What the lines of a trace are, where it has no fault.
use Rattle.std.specs.Prelude.{◌≡◌, ℕ, List, Ok, ◌<◌, length}
use Rattle.lx_num.specs.Ints.{Fits}
use Rattle.lx_circuit.specs.Circuit.{Input, role}
use Rattle.lx_fhdl.specs.Designs.{circuit_of, shapes}
use Rattle.lx_fhdl.specs.Keeping.{EachOf, Keeps}
use Rattle.lx_fhdl.specs.declared.design.Design.{Design}
use Rattle.lx_trace.specs.declared.acts.TraceAct.{TraceAct}
use Rattle.lx_trace.specs.declared.acts.TraceAct.TheVariants as act
use Rattle.lx_trace.specs.declared.acts.TraceLine.{TraceLine}
use Rattle.lx_trace.specs.Traces.{trace_of}

-- an input gets a value that fits, and a signal that is shown is there
abbrev pub IsAct : Design → TraceAct → Type 0
IsAct d (act.Set x value) = (role (circuit_of d) x.0 ≡ Input) × Fits (shapes d x.0) value
IsAct d (act.Run count event) = Unit {0}
IsAct d (act.Show x) = x.0 < length d.signals

abbrev pub IsLine : Design → TraceLine → Type 0
IsLine d l = IsAct d l.act

abbrev pub AreLines : Design → List TraceLine → Type 0
AreLines d ls = EachOf (IsLine d) ls

-- The lines of a trace without a fault can be run.
abbrev pub LinesStand : Type 0
LinesStand = (d : Design) (names : List (List ℕ)) (text : List ℕ) (ls : List TraceLine) → Keeps d → trace_of d names text ≡ Ok ls → AreLines d ls
