-- Two designs of one circuit answer the same to a trace.
use Rattle.std.proofs.Common.{◌≡◌, ℕ, ℤ, ◌+◌, cond, List, [], ◌∷◌, Option, Some, None, Result, Ok, Err, refl, sym, ap, subst, ◌∙◌}
use Rattle.lx_text.specs.declared.faults.Fault.{Fault}
use Rattle.lx_text.specs.declared.faults.Kind.{Kind}
use Rattle.lx_text.specs.declared.faults.Kind.TheVariants as kind
use Rattle.lx_circuit.specs.Circuit.{Circuit, IsView, role}
use Rattle.lx_circuit.specs.Circuit as circuit
use Rattle.lx_vtext.specs.Tree.{Name}
use Rattle.lx_fhdl.specs.declared.design.Design.{Design}
use Rattle.lx_fhdl.specs.declared.design.Domain.{Domain}
use Rattle.lx_fhdl.specs.declared.design.Signal.{Signal}
use Rattle.lx_trace.specs.Lines.{Saying, Set, Run, Show, is_silent, saying}
use Rattle.lx_trace.specs.Pieces.{pieces}
use Rattle.lx_trace.specs.Traces.{act_of, after_act, after_line, event_of, fits, if_input, is_input, lines_read, run_line, set_line, show_line, signal_among, signal_named, steps_of, trace_of}
use Rattle.lx_trace.specs.declared.acts.TraceAct.{TraceAct}
use Rattle.lx_trace.specs.declared.acts.TraceAct.TheVariants as act
use Rattle.lx_trace.specs.declared.acts.TraceLine.{TraceLine}
use Rattle.lx_translate.specs.Translation.{AreAlike}
use Rattle.lx_translate.proofs.Alike.{same_names}
use Rattle.lx_sim.specs.Moments.{Moment, start}
use Rattle.lx_sim.specs.Said.{Says, Tells, after}
use Rattle.lx_running.specs.Traced.{HasTraceFault, IsAnswerOf}

-- ---- what one line comes to

same_signal : (a b : Design) (names : List Name) (name : Name) → AreAlike a b → signal_named a names name ≡ signal_named b names name
same_signal a b names name h = ap (λ (ss : List Signal). signal_among 0 ss names name) h.signals

abbrev input_in : ℕ → Circuit → Option ℕ
input_in x c = cond (is_input (role c x)) (Some x) None

same_input : (a b : Design) (o : Option ℕ) → AreAlike a b → if_input a o ≡ if_input b o
same_input a b None h = refl
same_input a b (Some x) h = ap (input_in x) h.circuit

abbrev set_in : ℕ → ℤ → Circuit → Result TraceAct Kind
set_in x value c = cond (fits (circuit.shapes c x) value) (Ok (act.Set (record { 0 = x }) value)) (Err kind.TraceValue)

same_set : (a b : Design) (name : Name) (value : ℤ) (o : Option ℕ) → AreAlike a b → set_line a name value o ≡ set_line b name value o
same_set a b name value None h = refl
same_set a b name value (Some x) h = ap (set_in x value) h.circuit

same_act : (a b : Design) (names : List Name) (steps : ℕ) (s : Option Saying) → AreAlike a b → act_of a names steps s ≡ act_of b names steps s
same_act a b names steps None h = refl
same_act a b names steps (Some (Set input value)) h =
    same_set a b input value (if_input a (signal_named a names input)) h
    ∙ ap (set_line b input value) (same_input a b (signal_named a names input) h ∙ ap (if_input b) (same_signal a b names input h))
same_act a b names steps (Some (Run count domains)) h = ap (λ (ds : List Domain). run_line steps count (event_of ds 0 domains)) h.domains
same_act a b names steps (Some (Show name)) h = ap (show_line name) (same_signal a b names name h)

-- ---- and all of them

abbrev goes_on : Design → List Name → ℕ → ℕ → List (List ℕ) → TraceAct → Result (List TraceLine) Fault
goes_on d names k steps ls x = after_line (record { line = k; act = x }) (lines_read d names (k + 1) (steps + steps_of x) ls)

same_after : (k : ℕ) (r : Result TraceAct Kind) (f g : TraceAct → Result (List TraceLine) Fault) → ((x : TraceAct) → f x ≡ g x) → after_act k r f ≡ after_act k r g
same_after k (Ok x) f g h = h x
same_after k (Err x) f g h = refl

same_lines : (a b : Design) (names : List Name) (k steps : ℕ) (ls : List (List ℕ)) → AreAlike a b → lines_read a names k steps ls ≡ lines_read b names k steps ls
same_lines a b names k steps [] h = refl
same_lines a b names k steps (l ∷ ls) h =
    ap (λ (r : Result (List TraceLine) Fault). cond (is_silent l) r (after_act k (act_of a names steps (saying l)) (goes_on a names k steps ls))) (same_lines a b names (k + 1) steps ls h)
    ∙ ap (λ (r : Result (List TraceLine) Fault). cond (is_silent l) (lines_read b names (k + 1) steps ls) r)
    (ap (λ (r : Result TraceAct Kind). after_act k r (goes_on a names k steps ls)) (same_act a b names steps (saying l) h)
    ∙ same_after k (act_of b names steps (saying l)) (goes_on a names k steps ls) (goes_on b names k steps ls)
    (λ (x : TraceAct). ap (after_line (record { line = k; act = x })) (same_lines a b names (k + 1) (steps + steps_of x) ls h)))

same_trace : (a b : Design) (names : List Name) (trace : List ℕ) → AreAlike a b → trace_of a names trace ≡ trace_of b names trace
unfolding trace_of
same_trace a b names trace h = same_lines a b names 1 0 (pieces 10 trace) h

-- A trace that is answered has no fault.
pub no_trace_fault : (a b : Design) (trace text : List ℕ) (f : Fault) → AreAlike a b → IsAnswerOf a trace text → HasTraceFault b trace f → ⊥
no_trace_fault a b trace text f h x y =
    let named : Ok x.names ≡ Ok y.names = sym x.named ∙ same_names a b h ∙ y.named in
    let same : x.names ≡ y.names = cc in
    let read : trace_of b y.names trace ≡ Ok x.lines = ap (λ (names : List Name). trace_of b names trace) (sym same) ∙ sym (same_trace a b x.names trace h) ∙ x.read in
    let bad : Ok x.lines ≡ Err f = sym read ∙ y.found in
    absurd cc

-- ---- and the same answers

tells_too : (a b : Design) (names : List Name) (m : Moment) (x : TraceAct) (text : List ℕ) → AreAlike a b → Tells a names m x text → Tells b names m x text
tells_too a b names m (act.Set s value) text h t = t
tells_too a b names m (act.Run count event) text h t = t
tells_too a b names m (act.Show s) text h t = (t.0, subst (λ (c : Circuit). IsView c m.steps m.inputs t.0) h.circuit t.1, t.2)

says_too : (a b : Design) (names : List Name) (m : Moment) (ls : List TraceLine) (text : List ℕ) → AreAlike a b → Says a names m ls text → Says b names m ls text
says_too a b names m [] text h s = s
says_too a b names m (l ∷ ls) text h s = (s.0, s.1, tells_too a b names m l.act s.0 h s.2, says_too a b names (after m l.act) ls s.1 h s.3, s.4)

pub answer_too : (a b : Design) (trace text : List ℕ) → AreAlike a b → IsAnswerOf a trace text → IsAnswerOf b trace text
answer_too a b trace text h x = record {
  names = x.names;
  named = sym (same_names a b h) ∙ x.named;
  lines = x.lines;
  read = sym (same_trace a b x.names trace h) ∙ x.read;
  answers = says_too a b x.names start x.lines text h x.answers;
}
