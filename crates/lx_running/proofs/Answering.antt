-- What a circuit with lowered ports answers, the circuit does.
use Rattle.std.proofs.Common.{◌≡◌, ℕ, zero, suc, Bool, true, false, ◌+◌, ◌<◌, ◌≤◌, List, [], ◌∷◌, ◌++◌, map, length, refl, sym, ◌∙◌, ap, subst, arith, length-append}
use Rattle.std.specs.Prelude.{slice_index_or}
use Rattle.std.proofs.lemmas.List.{length-map}
use Rattle.lx_num.specs.declared.Shape.{Shape}
use Rattle.lx_num.specs.Ints.{Fits}
use Rattle.lx_circuit.specs.Circuit as circuit
use Rattle.lx_circuit.specs.Circuit.{Made, Role, made, nothing, role}
use Rattle.lx_circuit.specs.Fitting.{InputsFit, StepsFit}
use Rattle.lx_fhdl.specs.Designs.{circuit_of, made_of, shapes}
use Rattle.lx_fhdl.specs.Keeping.{Keeps}
use Rattle.lx_fhdl.specs.declared.design.Design.{Design}
use Rattle.lx_fhdl.specs.declared.design.Signal.{Signal}
use Rattle.lx_emission.specs.Naming.{net}
use Rattle.lx_memory.specs.Lowers.{IsPortsOf}
use Rattle.lx_trace.specs.Laws.{AreLines, IsAct}
use Rattle.lx_trace.specs.Traces.{is_input, rises_of}
use Rattle.lx_trace.specs.declared.acts.TraceAct.{TraceAct}
use Rattle.lx_trace.specs.declared.acts.TraceAct.TheVariants as act
use Rattle.lx_trace.specs.declared.acts.TraceLine.{TraceLine}
use Rattle.lx_sim.specs.Moments.{Moment, start}
use Rattle.lx_sim.specs.Said.{AreNamed, IsNamed, Says, Tells, after, answer, run_for}
use Rattle.lx_sim.proofs.Inputs.{input_there}
use Rattle.lx_sim.proofs.Moving.{inputs_fit_set, zero_inputs}
use Rattle.lx_sim.proofs.Stepping.{steps_fit_more}
use Rattle.lx_running.specs.Parts.{HaveInputs}

-- ---- the signals of the design

signals_long : (d : Design) → length (circuit_of d).signals ≡ length d.signals
unfolding circuit_of
signals_long d = length-map d.signals made_of

longer : (d p : Design) → IsPortsOf d p → length d.signals ≤ length p.signals
longer d p h = omega (arith, ap length h.added.signals_are, length-append d.signals h.added.signals)

made_at : (d : Design) (x : ℕ) → made (circuit_of d) x ≡ slice_index_or (map made_of d.signals) x nothing
unfolding circuit_of
made_at d x = refl

front : (ss more : List Signal) (x : ℕ) → x < length ss → slice_index_or (map made_of (ss ++ more)) x nothing ≡ slice_index_or (map made_of ss) x nothing
front [] more x l = absurd (omega arith)
front (s ∷ ss) more zero l = refl
front (s ∷ ss) more (suc x) l = front ss more x (omega arith)

shapes_stay : (d p : Design) (x : ℕ) → IsPortsOf d p → x < length d.signals → shapes p x ≡ shapes d x
shapes_stay d p x h l =
    ap (λ (m : Made). m.shape)
    (made_at p x ∙ (ap (λ (ss : List Signal). slice_index_or (map made_of ss) x nothing) h.added.signals_are ∙ (front d.signals h.added.signals x l ∙ sym (made_at d x))))

is_of : (r : Role) → is_input r ≡ true → r ≡ circuit.Input
is_of circuit.Input e = refl
is_of circuit.Comb e = absurd cc
is_of (circuit.Sync k) e = absurd cc
is_of (circuit.Read j) e = absurd cc
is_of circuit.Undriven e = absurd cc

pub have_inputs : (d p : Design) → IsPortsOf d p → HaveInputs d p
have_inputs d p h = record {
  longer = longer d p h;
  same = λ x l.
      both_ways (is_input (role (circuit_of d) x)) (is_input (role (circuit_of p) x)) (λ e. ap is_input (h.lowers.inputs x (is_of (role (circuit_of d) x) e))) (λ e. ap is_input (h.lowers.inputs_back x (is_of (role (circuit_of p) x) e)));
}
  where
    both_ways : (a b : Bool) → (a ≡ true → b ≡ true) → (b ≡ true → a ≡ true) → a ≡ b
    both_ways true b f g = sym (f refl)
    both_ways false true f g = g refl
    both_ways false false f g = refl

-- ---- lines

line_stays : (d p : Design) (a : TraceAct) → Keeps d → IsPortsOf d p → IsAct d a → IsAct p a
line_stays d p (act.Set x value) keeps h is = (h.lowers.inputs x.0 is.0, subst (λ (a : Shape). Fits a value) (sym (shapes_stay d p x.0 h (input_there d x.0 keeps is.0))) is.1)
line_stays d p (act.Run count event) keeps h is = tt
line_stays d p (act.Show x) keeps h is = omega (arith, is, longer d p h)

pub lines_stay : (d p : Design) (ls : List TraceLine) → Keeps d → IsPortsOf d p → AreLines d ls → AreLines p ls
lines_stay d p [] keeps h is = tt
lines_stay d p (l ∷ ls) keeps h is = (line_stays d p l.act keeps h is.0, lines_stay d p ls keeps h is.1)

named : (d : Design) (n : ℕ) (a : TraceAct) → length d.signals ≤ n → IsAct d a → IsNamed n a
named d n (act.Set x value) l is = tt
named d n (act.Run count event) l is = tt
named d n (act.Show x) l is = omega (arith, l, is)

pub are_named : (d : Design) (n : ℕ) (ls : List TraceLine) → length d.signals ≤ n → AreLines d ls → AreNamed n ls
are_named d n [] l is = tt
are_named d n (k ∷ ks) l is = (named d n k.act l is.0, are_named d n ks l is.1)

-- ---- moments

record Fitting (d : Design) (m : Moment) : Type 0 where
  steps : StepsFit (circuit_of d) m.steps
  inputs : InputsFit (circuit_of d) m.inputs

run_fits : (d : Design) (m : Moment) (n rises : ℕ) → Fitting d m → Fitting d (run_for m n rises)
run_fits d m zero rises f = f
run_fits d m (suc n) rises f =
    let g = run_fits d m n rises f in
    let r = run_for m n rises in
    record { steps = steps_fit_more (circuit_of d) r.steps (record { inputs = r.inputs; rises = rises_of rises }) g.steps g.inputs; inputs = g.inputs }

after_fits : (d : Design) (m : Moment) (a : TraceAct) → IsAct d a → Fitting d m → Fitting d (after m a)
after_fits d m (act.Set x value) is f = record { steps = f.steps; inputs = inputs_fit_set d m.inputs x.0 value is.1 f.inputs }
after_fits d m (act.Run count event) is f = run_fits d m count event.rises f
after_fits d m (act.Show x) is f = f

-- ---- answers

tells_back : (d p : Design) (names : List (List ℕ)) (m : Moment) (a : TraceAct) (text : List ℕ) → IsPortsOf d p → IsAct d a → Fitting d m → Tells p names m a text → Tells d names m a text
tells_back d p names m (act.Set x value) text h is f tells = tells
tells_back d p names m (act.Run count event) text h is f tells = tells
tells_back d p names m (act.Show x) text h is f tells =
    let back = h.lowers.runs.back m.steps m.inputs f.steps f.inputs tells.0 tells.1 in
    let same = back.2.signals x.0 (omega (arith, signals_long d, is)) in
    (back.0, back.1, tells.2 ∙ ap (answer (length m.steps) (net names x.0)) (sym same))

says_back : (d p : Design) (names : List (List ℕ)) (m : Moment) (ls : List TraceLine) (text : List ℕ) → IsPortsOf d p → AreLines d ls → Fitting d m → Says p names m ls text → Says d names m ls text
says_back d p names m [] text h is f says = says
says_back d p names m (l ∷ ls) text h is f says =
    (says.0, says.1, tells_back d p names m l.act says.0 h is.0 f says.2, says_back d p names (after m l.act) ls says.1 h is.1 (after_fits d m l.act is.0 f) says.3, says.4)

pub answers_back : (d p : Design) (names : List (List ℕ)) (ls : List TraceLine) (text : List ℕ) → Keeps d → IsPortsOf d p → AreLines d ls → Says p names start ls text → Says d names start ls text
answers_back d p names ls text keeps h is says = says_back d p names start ls text h is (record { steps = tt; inputs = zero_inputs d keeps }) says
