-- What a simulator shows after a call.
use Rattle.std.proofs.Common.{◌≡◌, ℕ, Bool, ◌<◌, List, [], ◌∷◌, ◌++◌, length, set, take, cond, sym, ◌∙◌, ap, subst, inl, inr, arith, eq-eqb}
use Rattle.std.specs.Prelude.{ℤ, pos}
use Rattle.std.proofs.lemmas.Bool.{cases_eq}
use Rattle.lx_num.specs.Ints.{Fits}
use Rattle.lx_circuit.specs.Places.{Values, At}
use Rattle.lx_circuit.specs.Circuit as circuit
use Rattle.lx_circuit.specs.Circuit.{first_state, next_state, role}
use Rattle.lx_circuit.specs.Fitting.{InputsFit}
use Rattle.lx_circuit.proofs.Settle.{settles_once}
use Rattle.lx_fhdl.specs.Designs.{circuit_of, shapes}
use Rattle.lx_fhdl.specs.Keeping.{Keeps}
use Rattle.lx_fhdl.specs.declared.design.Design.{Design}
use Rattle.lx_fhdl.proofs.Designs.{signal_some}
use Rattle.lx_sim.specs.Moments.{AreValues, Moment, Seen, Shows, setting, start, stepped, with_input}
use Rattle.lx_sim.specs.Plans.{IsPlanOf}
use Rattle.lx_sim.specs.Ready.{IsReady}
use Rattle.lx_sim.specs.Settled.{Advances, HaveSettled, Settles}
use Rattle.lx_sim.specs.Firsts.{AreFirst}
use Rattle.lx_sim.specs.Writing.{AreFirstWords, Writes}
use Rattle.lx_sim.specs.declared.plan.Plan.{Plan}
use Rattle.lx_sim.proofs.Firsts.{zero_fits}
use Rattle.lx_sim.proofs.Sources.{other, sourced_first, sourced_set}
use Rattle.lx_sim.proofs.Ready.{written_back}
use Rattle.lx_sim.proofs.Stepping.{reached_more, reached_view, steps_fit_more, view_reached}
use Rattle.lx_sim.proofs.Remembered.{first_are, words_stay}
use Rattle.lx_sim.proofs.Writing.{words_next}
use Rattle.lx_trace.specs.Traces.{rises_of}

abbrev pub seen : Design → List ℤ → List (List ℤ) → Seen
seen d vals words = record { design = d; values = vals; words = words }

-- values of the one design's signals are values of the other's
lowered_values : (d : Design) (p : Plan) (vals : List ℤ) (v : Values) → IsPlanOf d p → AreValues d vals v → AreValues p.design vals v
lowered_values d p vals v of are = record { each = λ x l. are.each x (omega (arith, ap length of.lowering.signals, l)) }

own_values : (d : Design) (p : Plan) (vals : List ℤ) (v : Values) → IsPlanOf d p → AreValues p.design vals v → AreValues d vals v
own_values d p vals v of are = record { each = λ x l. are.each x (omega (arith, ap length of.lowering.signals, l)) }

pub inputs_fit_set : (d : Design) (inputs : Values) (x : ℕ) (z : ℤ) → Fits (shapes d x) z → InputsFit (circuit_of d) inputs → InputsFit (circuit_of d) (with_input inputs x z)
inputs_fit_set d inputs x z f fit = record {
  each = λ y e.
      elim (cases_eq y x) [
        | inl q ↦
            let here : with_input inputs x z (At y) ≡ z = ap (λ (b : Bool). cond b z (inputs (At y))) (eq-eqb x y (sym q)) in
            subst (λ (i : ℕ). Fits (shapes d i) (with_input inputs x z (At y))) (sym q) (subst (λ (k : ℤ). Fits (shapes d x) k) (sym here) f)
        | inr q ↦
            let here : with_input inputs x z (At y) ≡ inputs (At y) = ap (λ (b : Bool). cond b z (inputs (At y))) (other x y q) in
            subst (λ (k : ℤ). Fits (shapes d y) k) (sym here) (fit.each y e)
      ];
}

pub set_shows : (d : Design) (p : Plan) (vals : List ℤ) (words : List (List ℤ)) (known next later again : List ℤ) (x : ℕ) (z : ℤ) → IsReady d p vals words known next → role (circuit_of d) x ≡ circuit.Input → Fits (shapes d x) z → x < length vals
    → Settles p words (set vals x z) later again → (m : Moment) → Shows (seen d vals words) m → Shows (seen d later words) (setting m x z)
set_shows d p vals words known next later again x z ready input fits room settles m shows =
    let of = ready.planned in
    let lowers = of.lowering.lowers in
    let e = circuit_of p.design in
    let r = view_reached e (first_state e) m.steps m.inputs shows.view (lowers.runs.there m.steps m.inputs shows.steps_fit shows.inputs_fit shows.view shows.is_view) in
    let inputs = with_input m.inputs x z in
    let one = settles_once e (lowers.order of.order) r.0 inputs in
    let sourced = sourced_set p.design x z r.0 m.inputs shows.view one.values vals of.plan.memories.show_nothing (sym (lowers.roles x) ∙ input) room r.2 one.settled (lowered_values d p vals shows.view of shows.values) in
    let right = words_stay p.design words r.0 m.inputs shows.view inputs one.values r.2 one.settled shows.words in
    let done = settles.is r.0 inputs one.values one.settled sourced right in
    let fit = inputs_fit_set d m.inputs x z fits shows.inputs_fit in
    record {
      steps_fit = shows.steps_fit;
      inputs_fit = fit;
      view = one.values;
      is_view = lowers.runs.back m.steps inputs shows.steps_fit fit one.values (reached_view e (first_state e) m.steps r.0 inputs one.values r.1 one.settled);
      values = own_values d p later one.values of done.signals;
      words = right;
    }

pub step_shows : (d : Design) (p : Plan) (vals : List ℤ) (words written : List (List ℤ)) (known next moved later again : List ℤ) (rises : ℕ) → IsReady d p vals words known next → Advances p rises vals known moved
    → Writes p.design (circuit_of p.design).ports rises vals words written → Settles p written moved later again → (m : Moment) → Shows (seen d vals words) m → Shows (seen d later written) (stepped m rises)
step_shows d p vals words written known next moved later again rises ready advances writes settles m shows =
    let of = ready.planned in
    let lowers = of.lowering.lowers in
    let e = circuit_of p.design in
    let t : circuit.Step = record { inputs = m.inputs; rises = rises_of rises } in
    let r = view_reached e (first_state e) m.steps m.inputs shows.view (lowers.runs.there m.steps m.inputs shows.steps_fit shows.inputs_fit shows.view shows.is_view) in
    let state = next_state e r.0 shows.view (rises_of rises) in
    let one = settles_once e (lowers.order of.order) state m.inputs in
    let are = lowered_values d p vals shows.view of shows.values in
    let have : HaveSettled p.design shows.view vals known = record { signals = are; exprs = ready.right shows.view are shows.words } in
    let sourced = advances.is r.0 m.inputs shows.view one.values r.2 have one.settled in
    let right = words_next p.design rises vals words written r.0 shows.view m.inputs one.values of.plan.keeps writes are shows.words one.settled in
    let done = settles.is state m.inputs one.values one.settled sourced right in
    let fit = steps_fit_more (circuit_of d) m.steps t shows.steps_fit shows.inputs_fit in
    record {
      steps_fit = fit;
      inputs_fit = shows.inputs_fit;
      view = one.values;
      is_view = lowers.runs.back (m.steps ++ t ∷ []) m.inputs fit shows.inputs_fit one.values (reached_view e (first_state e) (m.steps ++ t ∷ []) state m.inputs one.values (reached_more e (first_state e) m.steps r.0 t shows.view r.1 r.2) one.settled);
      values = own_values d p later one.values of done.signals;
      words = right;
    }

-- ---- the start

pub zero_inputs : (d : Design) → Keeps d → InputsFit (circuit_of d) (λ q. pos 0)
zero_inputs d keeps = record { each = λ x e. zero_fits (shapes d x).bits (shapes d x).signed (signal_some d keeps x) }

pub start_shows : (d : Design) (p : Plan) (first : List ℤ) (words : List (List ℤ)) (later again : List ℤ) → Keeps d → IsPlanOf d p → AreFirst p (length p.design.signals) first → AreFirstWords p.design (length p.design.memories) words
    → Settles p words first later again → Shows (seen d later words) start
start_shows d p first words later again keeps of are are_words settles =
    let lowers = of.lowering.lowers in
    let e = circuit_of p.design in
    let inputs : Values = λ q. pos 0 in
    let one = settles_once e (lowers.order of.order) (first_state e) inputs in
    let right = first_are p.design words inputs one.values are_words one.settled in
    let done = settles.is (first_state e) inputs one.values one.settled (sourced_first p first one.values of.plan are one.settled) right in
    record {
      steps_fit = tt;
      inputs_fit = zero_inputs d keeps;
      view = one.values;
      is_view = lowers.runs.back [] inputs tt (zero_inputs d keeps) one.values one.settled;
      values = own_values d p later one.values of done.signals;
      words = right;
    }

-- what a slice of the same length is written back to
pub shows_back : (d : Design) (vals xs : List ℤ) (words : List (List ℤ)) (n : ℕ) (m : Moment) → n ≡ length vals → Shows (seen d vals words) m → Shows (seen d (take n (vals ++ xs)) words) m
shows_back d vals xs words n m e s = subst (λ (zs : List ℤ). Shows (seen d zs words) m) (sym (written_back n vals xs e)) s

pub shows_written : (d : Design) (vals xs : List ℤ) (words ws : List (List ℤ)) (n k : ℕ) (m : Moment) → n ≡ length vals → k ≡ length words → Shows (seen d vals words) m → Shows (seen d (take n (vals ++ xs)) (take k (words ++ ws))) m
shows_written d vals xs words ws n k m e f s = subst (λ (us : List (List ℤ)). Shows (seen d (take n (vals ++ xs)) us) m) (sym (written_back k words ws f)) (shows_back d vals xs words n m e s)
