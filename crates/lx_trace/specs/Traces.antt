-- What a trace does to the circuit of a design, or its first fault.
use Rattle.std.specs.Prelude.{ℕ, ℤ, Bool, true, false, List, [], ◌∷◌, ◌+◌, ◌/◌, ◌%◌, ◌^◌, ◌&&◌, Option, Some, None, Result, Ok, Err, nat_eq, nat_le, if◌then◌else◌}
use Rattle.std.specs.Str.{bytes_eq}
use Rattle.lx_num.specs.declared.Shape.{Shape}
use Rattle.lx_num.specs.Ints.{wrapped}
use Rattle.std.specs.Ordering.{int_eq}
use Rattle.lx_text.specs.declared.faults.Fault.{Fault}
use Rattle.lx_text.specs.declared.faults.Kind.{Kind}
use Rattle.lx_text.specs.declared.faults.Kind.TheVariants as kind
use Rattle.lx_circuit.specs.Circuit as circuit
use Rattle.lx_circuit.specs.Circuit.{Role, role}
use Rattle.lx_fhdl.specs.Designs.{circuit_of, shapes}
use Rattle.lx_fhdl.specs.declared.design.Signal.{Signal}
use Rattle.lx_fhdl.specs.declared.design.Domain.{Domain}
use Rattle.lx_fhdl.specs.declared.design.Design.{Design}
use Rattle.lx_trace.specs.declared.acts.TraceAct.{TraceAct}
use Rattle.lx_trace.specs.declared.acts.TraceAct.TheVariants as act
use Rattle.lx_trace.specs.declared.acts.TraceLine.{TraceLine}
use Rattle.lx_trace.specs.Pieces.{pieces}
use Rattle.lx_trace.specs.Lines.{Saying, Set, Run, Show, is_silent, saying}

-- ---- names

-- generated hardware has no path, and can't be shown
abbrev pub has_words : List (List ℕ) → Bool
has_words [] = false
has_words (w ∷ ws) = true

abbrev pub has_path : Signal → Bool
has_path s = has_words s.path

-- the first signal with a path whose net has the name; k is the number of the first of these signals
abbrev pub signal_among : ℕ → List Signal → List (List ℕ) → List ℕ → Option ℕ
signal_among k (s ∷ ss) (n ∷ ns) name = if bytes_eq name n && has_path s then Some k else signal_among (k + 1) ss ns name
signal_among k _ _ name = None

-- the signal that a name of these names means
abbrev pub signal_named : Design → List (List ℕ) → List ℕ → Option ℕ
signal_named d names name = signal_among 0 d.signals names name

abbrev pub is_input : Role → Bool
is_input circuit.Input = true
is_input _ = false

-- the input that a name means
abbrev pub if_input : Design → Option ℕ → Option ℕ
if_input d None = None
if_input d (Some x) = if is_input (role (circuit_of d) x) then Some x else None

-- the first domain of the name; k is the number of the first of these domains
abbrev pub domain_among : ℕ → List Domain → List ℕ → Option ℕ
domain_among k [] name = None
domain_among k (d ∷ ds) name = if bytes_eq d.name name then Some k else domain_among (k + 1) ds name

-- ---- events

-- domain i is among those that rise
abbrev pub rises_of : ℕ → ℕ → Bool
rises_of rises i = nat_eq (rises / 2 ^ i % 2) 1

-- one domain more, unless it isn't there or rises already
abbrev pub with_rise : ℕ → Option ℕ → Option ℕ
with_rise rises None = None
with_rise rises (Some i) = if rises_of rises i then None else Some (rises + 2 ^ i)

-- a name that was refused, or what is done with the domains so far
abbrev pub after_rise : List ℕ → Option ℕ → (ℕ → Result ℕ (List ℕ)) → Result ℕ (List ℕ)
after_rise name None next = Err name
after_rise name (Some rises) next = next rises

-- the domains of these names besides those that rise, or the first name that is no domain's or stands twice
abbrev pub event_of : List Domain → ℕ → List (List ℕ) → Result ℕ (List ℕ)
event_of ds rises [] = Ok rises
event_of ds rises (n ∷ ns) = after_rise n (with_rise rises (domain_among 0 ds n)) (λ more. event_of ds more ns)

-- ---- lines

-- the most steps of a trace
abbrev pub most_steps : ℕ
most_steps = 1000000

abbrev pub fits : Shape → ℤ → Bool
fits s z = int_eq (wrapped s z) z

-- what a line comes to: an act, or the kind of its fault
abbrev pub set_line : Design → List ℕ → ℤ → Option ℕ → Result TraceAct Kind
set_line d name value None = Err (kind.TraceName name)
set_line d name value (Some x) = if fits (shapes d x) value then Ok (act.Set (record { 0 = x }) value) else Err kind.TraceValue

abbrev pub run_line : ℕ → ℕ → Result ℕ (List ℕ) → Result TraceAct Kind
run_line steps count (Err name) = Err (kind.TraceName name)
run_line steps count (Ok rises) = if nat_le (steps + count) most_steps then Ok (act.Run count (record { rises = rises })) else Err kind.TraceValue

abbrev pub show_line : List ℕ → Option ℕ → Result TraceAct Kind
show_line name None = Err (kind.TraceName name)
show_line name (Some x) = Ok (act.Show (record { 0 = x }))

-- with so many steps before it
abbrev pub act_of : Design → List (List ℕ) → ℕ → Option Saying → Result TraceAct Kind
act_of d names steps None = Err kind.TraceSyntax
act_of d names steps (Some (Set input value)) = set_line d input value (if_input d (signal_named d names input))
act_of d names steps (Some (Run count domains)) = run_line steps count (event_of d.domains 0 domains)
act_of d names steps (Some (Show name)) = show_line name (signal_named d names name)

abbrev pub steps_of : TraceAct → ℕ
steps_of (act.Set x value) = 0
steps_of (act.Run count event) = count
steps_of (act.Show x) = 0

-- ---- traces

abbrev pub after_line : TraceLine → Result (List TraceLine) Fault → Result (List TraceLine) Fault
after_line l (Ok ls) = Ok (l ∷ ls)
after_line l (Err f) = Err f

-- the fault of line k, or what is done with its act
abbrev pub after_act : ℕ → Result TraceAct Kind → (TraceAct → Result (List TraceLine) Fault) → Result (List TraceLine) Fault
after_act k (Err kind) next = Err (record { line = k; kind = kind })
after_act k (Ok act) next = next act

-- The lines of a trace from number k on, with so many steps before them, or the first fault.
abbrev pub lines_read : Design → List (List ℕ) → ℕ → ℕ → List (List ℕ) → Result (List TraceLine) Fault
lines_read d names k steps [] = Ok []
lines_read d names k steps (l ∷ ls) =
    if is_silent l then lines_read d names (k + 1) steps ls
    else after_act k (act_of d names steps (saying l)) (λ act. after_line (record { line = k; act = act }) (lines_read d names (k + 1) (steps + steps_of act) ls))

-- What the bytes of a trace say, line by line.
unfoldable pub trace_of : Design → List (List ℕ) → List ℕ → Result (List TraceLine) Fault
trace_of d names text = lines_read d names 1 0 (pieces 10 text)
