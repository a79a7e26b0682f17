-- The lines of a trace without a fault can be run.
use Rattle.std.proofs.Common.{◌≡◌, ℕ, Bool, true, false, ◌+◌, ◌≤◌, List, [], ◌∷◌, cond, refl, subst}
use Rattle.std.specs.Prelude.{ℤ, Option, Some, None, Result, Ok, Err, nat_le}
use Rattle.std.proofs.lemmas.Bool.Decides.{Decides-int_eq}
use Rattle.lx_num.specs.declared.Shape.{Shape}
use Rattle.lx_num.specs.Ints.{Fits, wrapped}
use Rattle.lx_num.proofs.Ranges.{FitsBits-wrap_bits}
use Rattle.lx_text.specs.declared.faults.Fault.{Fault}
use Rattle.lx_text.specs.declared.faults.Kind.{Kind}
use Rattle.lx_text.specs.declared.faults.Kind.TheVariants as kind
use Rattle.lx_circuit.specs.Circuit as circuit
use Rattle.lx_circuit.specs.Circuit.{Role, role}
use Rattle.lx_fhdl.specs.Designs.{circuit_of, shapes}
use Rattle.lx_fhdl.specs.Keeping.{Keeps}
use Rattle.lx_fhdl.specs.declared.design.Design.{Design}
use Rattle.lx_fhdl.proofs.Designs.{signal_some}
use Rattle.lx_trace.specs.declared.acts.TraceAct.{TraceAct}
use Rattle.lx_trace.specs.declared.acts.TraceAct.TheVariants as act
use Rattle.lx_trace.specs.declared.acts.TraceLine.{TraceLine}
use Rattle.lx_trace.specs.Laws.{AreLines, IsAct, IsLine}
use Rattle.lx_trace.specs.Lines.{Saying, Set, Run, Show, is_silent, saying}
use Rattle.lx_trace.specs.Pieces.{pieces}
use Rattle.lx_trace.specs.Traces.{act_of, after_act, after_line, event_of, fits, if_input, is_input, lines_read, most_steps, run_line, set_line, show_line, signal_named, steps_of, trace_of}
use Rattle.lx_trace.proofs.Tables.{named_below}

input_role : (r : Role) → is_input r ≡ true → r ≡ circuit.Input
input_role circuit.Input e = refl
input_role circuit.Comb e = absurd cc
input_role (circuit.Sync k) e = absurd cc
input_role (circuit.Read j) e = absurd cc
input_role circuit.Undriven e = absurd cc

if_input_is : (d : Design) (o : Option ℕ) (x : ℕ) → if_input d o ≡ Some x → role (circuit_of d) x ≡ circuit.Input
if_input_is d None x e = absurd cc
if_input_is d (Some y) x e = by (is_input (role (circuit_of d) y)) refl e
  where
    by : (b : Bool) → is_input (role (circuit_of d) y) ≡ b → cond b (Some y) None ≡ Some x → role (circuit_of d) x ≡ circuit.Input
    by true h f = let same : y ≡ x = cc in subst (λ (z : ℕ). role (circuit_of d) z ≡ circuit.Input) same (input_role (role (circuit_of d) y) h)
    by false h f = absurd cc

fits_from : (s : Shape) (z : ℤ) → 1 ≤ s.bits → fits s z ≡ true → Fits s z
fits_from s z some e = subst (λ (y : ℤ). Fits s y) ((Decides-int_eq (wrapped s z) z).0 e) (FitsBits-wrap_bits s.bits s.signed z some)

set_stands : (d : Design) (name : List ℕ) (value : ℤ) (s o : Option ℕ) (a : TraceAct) → Keeps d → if_input d s ≡ o → set_line d name value o ≡ Ok a → IsAct d a
set_stands d name value s None a keeps i e = absurd cc
set_stands d name value s (Some x) a keeps i e = by (fits (shapes d x) value) refl e
  where
    by : (b : Bool) → fits (shapes d x) value ≡ b → cond b (Ok (act.Set (record { 0 = x }) value)) (Err kind.TraceValue) ≡ Ok a → IsAct d a
    by true h f = let same : act.Set (record { 0 = x }) value ≡ a = cc in subst (λ (b : TraceAct). IsAct d b) same (if_input_is d s x i, fits_from (shapes d x) value (signal_some d keeps x) h)
    by false h f = absurd cc

show_stands : (d : Design) (names : List (List ℕ)) (name : List ℕ) (o : Option ℕ) (a : TraceAct) → o ≡ signal_named d names name → show_line name o ≡ Ok a → IsAct d a
show_stands d names name None a s e = absurd cc
show_stands d names name (Some x) a s e = let same : act.Show (record { 0 = x }) ≡ a = cc in subst (λ (b : TraceAct). IsAct d b) same (named_below d names name (Some x) s)

run_stands : (d : Design) (steps count : ℕ) (o : Result ℕ (List ℕ)) (a : TraceAct) → run_line steps count o ≡ Ok a → IsAct d a
run_stands d steps count (Err name) a e = absurd cc
run_stands d steps count (Ok rises) a e = by (nat_le (steps + count) most_steps) e
  where
    by : (b : Bool) → cond b (Ok (act.Run count (record { rises = rises }))) (Err kind.TraceValue) ≡ Ok a → IsAct d a
    by true f = let same : act.Run count (record { rises = rises }) ≡ a = cc in subst (λ (b : TraceAct). IsAct d b) same tt
    by false f = absurd cc

act_stands : (d : Design) (names : List (List ℕ)) (steps : ℕ) (o : Option Saying) (a : TraceAct) → Keeps d → act_of d names steps o ≡ Ok a → IsAct d a
act_stands d names steps None a keeps e = absurd cc
act_stands d names steps (Some (Set input value)) a keeps e = set_stands d input value (signal_named d names input) (if_input d (signal_named d names input)) a keeps refl e
act_stands d names steps (Some (Run count domains)) a keeps e = run_stands d steps count (event_of d.domains 0 domains) a e
act_stands d names steps (Some (Show name)) a keeps e = show_stands d names name (signal_named d names name) a refl e

after_stands : (d : Design) (l : TraceLine) (o : Result (List TraceLine) Fault) (ls : List TraceLine) → IsLine d l → ((more : List TraceLine) → o ≡ Ok more → AreLines d more) → after_line l o ≡ Ok ls → AreLines d ls
after_stands d l (Err f) ls h k e = absurd cc
after_stands d l (Ok more) ls h k e = let same : l ∷ more ≡ ls = cc in subst (λ (xs : List TraceLine). AreLines d xs) same (h, k more refl)

lines_stand : (d : Design) (names : List (List ℕ)) (k steps : ℕ) (lines : List (List ℕ)) (ls : List TraceLine) → Keeps d → lines_read d names k steps lines ≡ Ok ls → AreLines d ls
lines_stand d names k steps [] ls keeps e = let same : [] ≡ ls = cc in subst (λ (xs : List TraceLine). AreLines d xs) same tt
lines_stand d names k steps (l ∷ lines) ls keeps e = by (λ j more xs f. lines_stand d names j more lines xs keeps f) (is_silent l) e
  where
    with_act : ((j more : ℕ) (xs : List TraceLine) → lines_read d names j more lines ≡ Ok xs → AreLines d xs) → (o : Result TraceAct Kind) → act_of d names steps (saying l) ≡ o
        → after_act k o (λ a. after_line (record { line = k; act = a }) (lines_read d names (k + 1) (steps + steps_of a) lines)) ≡ Ok ls → AreLines d ls
    with_act rest (Err x) h f = absurd cc
    with_act rest (Ok a) h f = after_stands d (record { line = k; act = a }) (lines_read d names (k + 1) (steps + steps_of a) lines) ls (act_stands d names steps (saying l) a keeps h) (λ more g. rest (k + 1) (steps + steps_of a) more g) f

    by : ((j more : ℕ) (xs : List TraceLine) → lines_read d names j more lines ≡ Ok xs → AreLines d xs) → (b : Bool)
        → cond b (lines_read d names (k + 1) steps lines) (after_act k (act_of d names steps (saying l)) (λ a. after_line (record { line = k; act = a }) (lines_read d names (k + 1) (steps + steps_of a) lines))) ≡ Ok ls → AreLines d ls
    by rest true f = rest (k + 1) steps ls f
    by rest false f = with_act rest (act_of d names steps (saying l)) refl f

pub trace_stands : (d : Design) (names : List (List ℕ)) (text : List ℕ) (ls : List TraceLine) → Keeps d → trace_of d names text ≡ Ok ls → AreLines d ls
unfolding trace_of
trace_stands d names text ls keeps e = lines_stand d names 1 0 (pieces 10 text) ls keeps e
