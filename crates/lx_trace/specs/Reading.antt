-- How a trace is read, line by line.
use Rattle.std.specs.Prelude.{◌≡◌, ℕ, ℤ, Bool, true, false, List, ◌∷◌, ◌++◌, ◌≤◌, ◌+◌, Result, Ok, Err}
use Rattle.lx_text.specs.declared.faults.Fault.{Fault}
use Rattle.lx_text.specs.declared.faults.Kind.{Kind}
use Rattle.lx_text.specs.declared.faults.Kind.TheVariants as kind
use Rattle.lx_text.specs.declared.faults.Refusal.{Refusal}
use Rattle.lx_text.specs.declared.faults.Refusal.TheVariants as refusal
use Rattle.lx_trace.specs.declared.acts.Event.{Event}
use Rattle.lx_trace.specs.declared.acts.TraceAct.{TraceAct}
use Rattle.lx_trace.specs.declared.acts.TraceLine.{TraceLine}
use Rattle.lx_trace.specs.declared.reading.Reading.{Reading}
use Rattle.lx_num.specs.declared.Shape.{Shape}
use Rattle.lx_trace.specs.Cutoff.{clipped}
use Rattle.lx_trace.specs.Traces.{fits, lines_read, most_steps}
use Rattle.lx_trace.specs.Directories.{Named}

-- a line is refused with a fault of the kind, or for want of memory
abbrev pub IsRefusedAs : ℕ → Kind → Refusal → Type 0
IsRefusedAs k kind (refusal.Fault f) = f ≡ record { line = k; kind = kind }
IsRefusedAs k kind refusal.NoMemory = Unit {0}

-- want of memory aside, what line k comes to
abbrev pub Comes : ℕ → Result TraceAct Kind → Result TraceAct Refusal → Type 0
Comes k o (Ok act) = o ≡ Ok act
Comes k o (Err (refusal.Fault f)) = (o ≡ Err f.kind) × (f.line ≡ k)
Comes k o (Err refusal.NoMemory) = Unit {0}

-- the domains that rise, or the first name that is refused
abbrev pub Rises : ℕ → Result ℕ (List ℕ) → Result Event Refusal → Type 0
Rises k o (Ok event) = o ≡ Ok event.rises
Rises k o (Err (refusal.Fault f)) = (name : List ℕ) × (o ≡ Err name) × (f ≡ record { line = k; kind = kind.TraceName name })
Rises k o (Err refusal.NoMemory) = Unit {0}

-- whether a number fits a shape; one that is cut doesn't
abbrev pub IsFitting : Shape → ℤ → Bool → Type 0
IsFitting s z true = (fits s z ≡ true) × (clipped z ≡ z)
IsFitting s z false = fits s z ≡ false

-- all of a trace is refused, or all its lines are read
abbrev pub IsRead : Result (List TraceLine) Fault → Result (List TraceLine) Refusal → Type 0
IsRead o (Ok lines) = o ≡ Ok lines
IsRead o (Err (refusal.Fault f)) = o ≡ Err f
IsRead o (Err refusal.NoMemory) = Unit {0}

-- lines that were read before
abbrev pub behind : List TraceLine → Result (List TraceLine) Fault → Result (List TraceLine) Fault
behind ls (Ok more) = Ok (ls ++ more)
behind ls (Err f) = Err f

-- what all lines come to, where these were read and line k and others are left
abbrev pub left : Named → ℕ → Reading → List (List ℕ) → Result (List TraceLine) Fault
left a k r ls = behind r.lines (lines_read a.design a.names k r.steps ls)

-- line k is read too, or refused
abbrev pub ReadsLine : Named → ℕ → List ℕ → Reading → Reading → Result Unit Refusal → Type 0
ReadsLine a k line old new (Ok u) = ((ls : List (List ℕ)) → left a k old (line ∷ ls) ≡ left a (k + 1) new ls) × (new.steps ≤ most_steps)
ReadsLine a k line old new (Err (refusal.Fault f)) = (ls : List (List ℕ)) → left a k old (line ∷ ls) ≡ Err f
ReadsLine a k line old new (Err refusal.NoMemory) = Unit {0}
