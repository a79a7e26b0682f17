-- What a circuit answers to a trace.
use Rattle.std.specs.Prelude.{◌≡◌, ℕ, List, Result, Ok, Err}
use Rattle.lx_text.specs.declared.faults.Fault.{Fault}
use Rattle.lx_text.specs.declared.faults.Refusal.{Refusal}
use Rattle.lx_text.specs.declared.faults.Refusal.TheVariants as refusal
use Rattle.lx_vtext.specs.Tree.{Name}
use Rattle.lx_fhdl.specs.declared.design.Design.{Design}
use Rattle.lx_namer.specs.Names.{names_of}
use Rattle.lx_trace.specs.Traces.{trace_of}
use Rattle.lx_trace.specs.declared.acts.TraceLine.{TraceLine}
use Rattle.lx_sim.specs.Said.{Answers}

-- the lines of the trace, by the names of the circuit's nets, say this text: each `show` the value that its signal has in the
-- circuit's view at that moment
pub record IsAnswerOf (d : Design) (trace text : List ℕ) : Type 0 where
  pub names : List Name
  pub named : names_of d ≡ Ok names
  pub lines : List TraceLine
  pub read : trace_of d names trace ≡ Ok lines
  pub answers : Answers d names lines text

-- the first fault of the trace
pub record HasTraceFault (d : Design) (trace : List ℕ) (f : Fault) : Type 0 where
  pub names : List Name
  pub named : names_of d ≡ Ok names
  pub found : trace_of d names trace ≡ Err f

-- What a circuit without a fault answers to a trace, or the first fault of the trace.
abbrev pub Traced : Design → List ℕ → Result (List ℕ) Fault → Type 0
Traced d trace (Ok text) = IsAnswerOf d trace text
Traced d trace (Err f) = HasTraceFault d trace f

-- the same, want of memory aside
abbrev pub AnswersTo : Design → List ℕ → Result (List ℕ) Refusal → Type 0
AnswersTo d trace (Ok text) = Traced d trace (Ok text)
AnswersTo d trace (Err (refusal.Fault f)) = Traced d trace (Err f)
AnswersTo d trace (Err refusal.NoMemory) = Unit {0}
