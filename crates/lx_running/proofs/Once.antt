-- A circuit without a fault has one answer to a trace, since it has one view at each moment.
use Rattle.std.proofs.Common.{◌≡◌, ℕ, List, [], ◌∷◌, ◌++◌, Ok, length, sym, ap, subst, ◌∙◌}
use Rattle.lx_circuit.specs.Places.{At}
use Rattle.lx_circuit.specs.Reads.{HasOrder}
use Rattle.lx_circuit.proofs.Views.{viewed_once}
use Rattle.lx_emission.specs.Naming.{net}
use Rattle.lx_fhdl.specs.Designs.{circuit_of}
use Rattle.lx_fhdl.specs.declared.design.Design.{Design}
use Rattle.lx_trace.specs.Traces.{trace_of}
use Rattle.lx_trace.specs.declared.acts.TraceAct.{TraceAct}
use Rattle.lx_trace.specs.declared.acts.TraceAct.TheVariants as act
use Rattle.lx_trace.specs.declared.acts.TraceLine.{TraceLine}
use Rattle.lx_sim.specs.Moments.{Moment, start}
use Rattle.lx_sim.specs.Said.{Says, Tells, after, answer}
use Rattle.lx_running.specs.Laws.{IsOneAnswerLaw}

one_told : (d : Design) (names : List (List ℕ)) (m : Moment) (a : TraceAct) (x y : List ℕ) → HasOrder (circuit_of d) → Tells d names m a x → Tells d names m a y → x ≡ y
one_told d names m (act.Set s value) x y order p q = p ∙ sym q
one_told d names m (act.Run count event) x y order p q = p ∙ sym q
one_told d names m (act.Show s) x y order p q =
    let once = viewed_once (circuit_of d) order m.steps m.inputs in
    p.2 ∙ ap (answer (length m.steps) (net names s.0)) (once.only p.0 p.1 (At s.0) ∙ sym (once.only q.0 q.1 (At s.0))) ∙ sym q.2

one_said : (d : Design) (names : List (List ℕ)) (m : Moment) (ls : List TraceLine) (x y : List ℕ) → HasOrder (circuit_of d) → Says d names m ls x → Says d names m ls y → x ≡ y
one_said d names m [] x y order p q = p ∙ sym q
one_said d names m (l ∷ ls) x y order p q =
    p.4 ∙ ap (λ (t : List ℕ). t ++ p.1) (one_told d names m l.act p.0 q.0 order p.2 q.2)
    ∙ ap (λ (t : List ℕ). q.0 ++ t) (one_said d names (after m l.act) ls p.1 q.1 order p.3 q.3) ∙ sym q.4

pub one_answer : IsOneAnswerLaw
one_answer d trace x y none p q =
    let named : Ok p.names ≡ Ok q.names = sym p.named ∙ q.named in
    let names : p.names ≡ q.names = cc in
    let read : Ok p.lines ≡ Ok q.lines = sym p.read ∙ ap (λ (ns : List (List ℕ)). trace_of d ns trace) names ∙ q.read in
    let lines : p.lines ≡ q.lines = cc in
    one_said d q.names start q.lines x y none.sound.order
    (subst (λ (ns : List (List ℕ)). Says d ns start q.lines x) names (subst (λ (ls : List TraceLine). Says d p.names start ls x) lines p.answers)) q.answers
