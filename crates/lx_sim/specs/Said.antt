-- What a trace answers.
use Rattle.std.specs.Prelude.{◌≡◌, ℕ, ℤ, zero, suc, List, [], ◌∷◌, ◌++◌, ◌<◌, codes, length}
use Rattle.std.specs.Fmt.{signed_decimal, decimal}
use Rattle.lx_circuit.specs.Places.{Values, At}
use Rattle.lx_circuit.specs.Circuit.{IsView}
use Rattle.lx_fhdl.specs.Designs.{circuit_of}
use Rattle.lx_fhdl.specs.Keeping.{EachOf}
use Rattle.lx_fhdl.specs.declared.design.Design.{Design}
use Rattle.lx_emission.specs.Naming.{net}
use Rattle.lx_trace.specs.declared.acts.TraceAct.{TraceAct}
use Rattle.lx_trace.specs.declared.acts.TraceAct.TheVariants as act
use Rattle.lx_trace.specs.declared.acts.TraceLine.{TraceLine}
use Rattle.lx_sim.specs.Moments.{Moment, Seen, Shows, setting, start, stepped}
use Rattle.lx_sim.specs.declared.tell.Telling.{Telling}

-- so many steps with one event
abbrev pub run_for : Moment → ℕ → ℕ → Moment
run_for m zero rises = m
run_for m (suc n) rises = stepped (run_for m n rises) rises

-- where a run stands after a line
abbrev pub after : Moment → TraceAct → Moment
after m (act.Set x value) = setting m x.0 value
after m (act.Run count event) = run_for m count event.rises
after m (act.Show x) = m

-- the steps so far, the name, and the value in decimal
abbrev pub answer : ℕ → List ℕ → ℤ → List ℕ
answer steps name value = decimal steps ++ codes " " ++ name ++ codes " " ++ signed_decimal value ++ codes "\n"

-- what a line says at a moment: a signal's value in the view
abbrev pub Tells : Design → List (List ℕ) → Moment → TraceAct → List ℕ → Type 0
Tells d names m (act.Show x) text = (v : Values) × IsView (circuit_of d) m.steps m.inputs v × (text ≡ answer (length m.steps) (net names x.0) (v (At x.0)))
Tells d names m _ text = text ≡ []

-- What lines say from a moment on, one after another.
abbrev pub Says : Design → List (List ℕ) → Moment → List TraceLine → List ℕ → Type 0
Says d names m [] text = text ≡ []
Says d names m (l ∷ ls) text = (first rest : List ℕ) × Tells d names m l.act first × Says d names (after m l.act) ls rest × (text ≡ first ++ rest)

-- The answers of a trace, from the start on.
abbrev pub Answers : Design → List (List ℕ) → List TraceLine → List ℕ → Type 0
Answers d names lines text = Says d names start lines text

-- ---- names

-- the signal that is shown has one of the first n names
abbrev pub IsNamed : ℕ → TraceAct → Type 0
IsNamed n (act.Show x) = x.0 < n
IsNamed n _ = Unit {0}

abbrev pub AreNamed : ℕ → List TraceLine → Type 0
AreNamed n lines = EachOf (λ (l : TraceLine). IsNamed n l.act) lines

-- ---- one line

-- the text of one line is told, and the moment is the one after it
pub record TellsLine (names : List (List ℕ)) (a : TraceAct) (old new : Seen) (before later : Telling) : Type 0 where
  pub text : List ℕ
  pub told : later.text ≡ before.text ++ text
  pub tells : (m : Moment) → Shows old m → length m.steps ≡ before.steps → Tells old.design names m a text × Shows new (after m a)
