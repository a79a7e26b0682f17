-- One line more of a trace, and its steps.
use Rattle.std.proofs.Common.{◌≡◌, ℕ, Bool, true, false, ◌+◌, ◌≤◌, List, [], ◌∷◌, ◌++◌, ◌<◌, suc, length, drop, get_or, drop-cons, cond, refl, sym, ◌∙◌, ap, subst, arith, append_assoc}
use Rattle.std.specs.Prelude.{ℤ, Option, Some, None, Result, Ok, Err, nat_le}
use Rattle.std.proofs.lemmas.Bool.{leb-true}
use Rattle.lx_text.specs.declared.faults.Fault.{Fault}
use Rattle.lx_text.specs.declared.faults.Kind.{Kind}
use Rattle.lx_text.specs.declared.faults.Kind.TheVariants as kind
use Rattle.lx_circuit.proofs.Cases.{by_test}
use Rattle.lx_fhdl.specs.Designs.{shapes}
use Rattle.lx_fhdl.specs.declared.design.Design.{Design}
use Rattle.lx_trace.specs.declared.acts.TraceAct.{TraceAct}
use Rattle.lx_trace.specs.declared.acts.TraceAct.TheVariants as act
use Rattle.lx_trace.specs.declared.acts.TraceLine.{TraceLine}
use Rattle.lx_trace.specs.declared.reading.Reading.{Reading}
use Rattle.lx_trace.specs.Directories.{Named}
use Rattle.lx_trace.specs.Lines.{Saying, Set, Run, Show, is_silent, saying}
use Rattle.lx_text.specs.declared.faults.Refusal.{Refusal}
use Rattle.lx_text.specs.declared.faults.Refusal.TheVariants as refusal
use Rattle.lx_trace.specs.Pieces.{pieces}
use Rattle.lx_trace.specs.Reading.{Comes, IsRead, ReadsLine, behind, left}
use Rattle.lx_trace.specs.Traces.{act_of, after_line, event_of, fits, if_input, lines_read, most_steps, run_line, set_line, show_line, signal_named, steps_of, trace_of}

set_steps : (d : Design) (name : List ℕ) (value : ℤ) (o : Option ℕ) (steps : ℕ) (a : TraceAct) → steps ≤ most_steps → set_line d name value o ≡ Ok a → steps + steps_of a ≤ most_steps
set_steps d name value None steps a h e = absurd cc
set_steps d name value (Some x) steps a h e = by (fits (shapes d x) value) e
  where
    by : (t : Bool) → cond t (Ok (act.Set (record { 0 = x }) value)) (Err kind.TraceValue) ≡ Ok a → steps + steps_of a ≤ most_steps
    by true e = let same : act.Set (record { 0 = x }) value ≡ a = cc in rw (sym same) (omega arith)
    by false e = absurd cc

show_steps : (name : List ℕ) (o : Option ℕ) (steps : ℕ) (a : TraceAct) → steps ≤ most_steps → show_line name o ≡ Ok a → steps + steps_of a ≤ most_steps
show_steps name None steps a h e = absurd cc
show_steps name (Some x) steps a h e = let same : act.Show (record { 0 = x }) ≡ a = cc in rw (sym same) (omega arith)

run_steps : (steps count : ℕ) (o : Result ℕ (List ℕ)) (a : TraceAct) → run_line steps count o ≡ Ok a → steps + steps_of a ≤ most_steps
run_steps steps count (Err name) a e = absurd cc
run_steps steps count (Ok rises) a e =
    by_test (nat_le (steps + count) most_steps)
    (λ t. let same : act.Run count (record { rises = rises }) ≡ a = by_true t e in rw (sym same) (leb-true (steps + count) most_steps t))
    (λ t. absurd (by_false t e))
  where
    by_true : nat_le (steps + count) most_steps ≡ true → cond (nat_le (steps + count) most_steps) (Ok (act.Run count (record { rises = rises }))) (Err kind.TraceValue) ≡ Ok a → act.Run count (record { rises = rises }) ≡ a
    by_true t e = let same : cond true (Ok (act.Run count (record { rises = rises }))) (Err kind.TraceValue) ≡ Ok a = rw t at e in cc

    by_false : nat_le (steps + count) most_steps ≡ false → cond (nat_le (steps + count) most_steps) (Ok (act.Run count (record { rises = rises }))) (Err kind.TraceValue) ≡ Ok a → ⊥
    by_false t e = let same : cond false (Ok (act.Run count (record { rises = rises }))) (Err kind.TraceValue) ≡ Ok a = rw t at e in absurd cc

-- the steps of an act don't pass the most
pub act_steps : (d : Design) (names : List (List ℕ)) (steps : ℕ) (o : Option Saying) (a : TraceAct) → steps ≤ most_steps → act_of d names steps o ≡ Ok a → steps + steps_of a ≤ most_steps
act_steps d names steps None a h e = absurd cc
act_steps d names steps (Some (Set input value)) a h e = set_steps d input value (if_input d (signal_named d names input)) steps a h e
act_steps d names steps (Some (Run count domains)) a h e = run_steps steps count (event_of d.domains 0 domains) a e
act_steps d names steps (Some (Show name)) a h e = show_steps name (signal_named d names name) steps a h e

behind_line : (ls : List TraceLine) (l : TraceLine) (o : Result (List TraceLine) Fault) → behind ls (after_line l o) ≡ behind (ls ++ l ∷ []) o
behind_line ls l (Ok more) = ap Ok (sym (append_assoc ls (l ∷ []) more))
behind_line ls l (Err f) = refl

-- a line that does nothing
pub silent_left : (a : Named) (k : ℕ) (line : List ℕ) (r : Reading) (ls : List (List ℕ)) → is_silent line ≡ true → left a k r (line ∷ ls) ≡ left a (k + 1) r ls
silent_left a k line r ls e = rw e refl

-- a line with an act
pub act_left : (a : Named) (k : ℕ) (line : List ℕ) (r : Reading) (x : TraceAct) (ls : List (List ℕ)) → is_silent line ≡ false → act_of a.design a.names r.steps (saying line) ≡ Ok x
    → left a k r (line ∷ ls) ≡ left a (k + 1) (record { lines = r.lines ++ record { line = k; act = x } ∷ []; steps = r.steps + steps_of x }) ls
act_left a k line r x ls e f = rw (e, f) (behind_line r.lines (record { line = k; act = x }) (lines_read a.design a.names (k + 1) (r.steps + steps_of x) ls))

-- a line with a fault
pub fault_left : (a : Named) (k : ℕ) (line : List ℕ) (r : Reading) (x : Kind) (ls : List (List ℕ)) → is_silent line ≡ false → act_of a.design a.names r.steps (saying line) ≡ Err x
    → left a k r (line ∷ ls) ≡ Err (record { line = k; kind = x })
fault_left a k line r x ls e f = rw (e, f) refl

-- ---- what is left after a line

-- a line that is refused
pub err_line : (a : Named) (k : ℕ) (line : List ℕ) (old new : Reading) (r : Refusal) → is_silent line ≡ false → Comes k (act_of a.design a.names old.steps (saying line)) (Err r) → ReadsLine a k line old new (Err r)
err_line a k line old new (refusal.Fault f) e h = λ ls. fault_left a k line old f.kind ls e h.0 ∙ ap (λ (n : ℕ). Err (record { line = n; kind = f.kind })) (sym h.1)
err_line a k line old new refusal.NoMemory e h = tt

-- a line that does nothing
pub silent_line : (a : Named) (k : ℕ) (line : List ℕ) (old : Reading) (u : Unit {0}) → is_silent line ≡ true → old.steps ≤ most_steps → ReadsLine a k line old old (Ok u)
silent_line a k line old u e h = (λ ls. silent_left a k line old ls e, h)

-- a line with an act
pub ok_line : (a : Named) (k : ℕ) (line : List ℕ) (old new : Reading) (x : TraceAct) (u : Unit {0}) → is_silent line ≡ false → Comes k (act_of a.design a.names old.steps (saying line)) (Ok x) → old.steps ≤ most_steps
    → new ≡ record { lines = old.lines ++ record { line = k; act = x } ∷ []; steps = old.steps + steps_of x } → ReadsLine a k line old new (Ok u)
ok_line a k line old new x u e h l same = (
  λ ls. act_left a k line old x ls e h ∙ ap (λ (r : Reading). left a (k + 1) r ls) (sym same),
  subst (λ (r : Reading). r.steps ≤ most_steps) (sym same) (act_steps a.design a.names old.steps (saying line) x l h),
)

-- ---- traces

-- all lines are left at first, and behind the last one none
pub lines_first : (d : Design) (names : List (List ℕ)) (text : List ℕ) (lines : List (List ℕ)) → lines ≡ pieces 10 text → left (record { design = d; names = names }) 1 (record { lines = []; steps = 0 }) lines ≡ trace_of d names text
unfolding trace_of
lines_first d names text lines e = rw e (no_lines (lines_read d names 1 0 (pieces 10 text)))
  where
    no_lines : (o : Result (List TraceLine) Fault) → behind [] o ≡ o
    no_lines (Ok ls) = refl
    no_lines (Err f) = refl

pub lines_last : (a : Named) (k : ℕ) (r : Reading) (o : Result (List TraceLine) Fault) → left a k r [] ≡ o → o ≡ Ok r.lines
lines_last a k r o e = sym e ∙ ap Ok (append_empty r.lines)
  where
    append_empty : (ls : List TraceLine) → ls ++ [] ≡ ls
    append_empty [] = refl
    append_empty (l ∷ ls) = ap (λ (more : List TraceLine). l ∷ more) (append_empty ls)

-- one line more
pub lines_more : (a : Named) (k n : ℕ) (old new : Reading) (lines : List (List ℕ)) (o : Result (List TraceLine) Fault) (d : List ℕ) (u : Unit {0}) → k < length lines → n ≡ k + 1 → ReadsLine a n (get_or lines k d) old new (Ok u)
    → left a (k + 1) old (drop k lines) ≡ o → left a (k + 1 + 1) new (drop (k + 1) lines) ≡ o
lines_more a k n old new lines o d u l e reads h =
    let one : k + 1 ≡ suc k = omega arith in
    ap (λ (j : ℕ). left a (k + 1 + 1) new (drop j lines)) one
    ∙ (ap (λ (j : ℕ). left a (j + 1) new (drop (suc k) lines)) (sym e)
    ∙ (sym (reads.0 (drop (suc k) lines))
    ∙ (ap (λ (j : ℕ). left a j old (get_or lines k d ∷ drop (suc k) lines)) e
    ∙ (ap (λ (ls : List (List ℕ)). left a (k + 1) old ls) (sym (drop-cons lines k d l)) ∙ h))))

-- a line that is refused
pub lines_refused : (a : Named) (k n : ℕ) (old new : Reading) (lines : List (List ℕ)) (o : Result (List TraceLine) Fault) (d : List ℕ) (r : Refusal) → k < length lines → n ≡ k + 1 → ReadsLine a n (get_or lines k d) old new (Err r)
    → left a (k + 1) old (drop k lines) ≡ o → IsRead o (Err r)
lines_refused a k n old new lines o d (refusal.Fault f) l e reads h =
    sym h
    ∙ (ap (λ (ls : List (List ℕ)). left a (k + 1) old ls) (drop-cons lines k d l)
    ∙ (ap (λ (j : ℕ). left a j old (get_or lines k d ∷ drop (suc k) lines)) (sym e) ∙ reads (drop (suc k) lines)))
lines_refused a k n old new lines o d refusal.NoMemory l e reads h = tt

-- the same, where directory and line are told by equations
pub lines_refused_at : (a b : Named) (k n : ℕ) (old new : Reading) (lines : List (List ℕ)) (line : List ℕ) (o : Result (List TraceLine) Fault) (d : List ℕ) (r : Refusal) → a ≡ b → line ≡ get_or lines k d → k < length lines → n ≡ k + 1
    → ReadsLine a n line old new (Err r) → left b (k + 1) old (drop k lines) ≡ o → IsRead o (Err r)
lines_refused_at a b k n old new lines line o d r same there l e reads h =
    let here : ReadsLine a n (get_or lines k d) old new (Err r) = subst (λ (bytes : List ℕ). ReadsLine a n bytes old new (Err r)) there reads in
    lines_refused b k n old new lines o d r l e (subst (λ (x : Named). ReadsLine x n (get_or lines k d) old new (Err r)) same here) h
