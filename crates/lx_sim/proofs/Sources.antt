-- The signals that no combinatorial statement drives, from one moment to another.
use Rattle.std.proofs.Common.{◌≡◌, ℕ, Bool, false, ◌<◌, List, length, set, refl, sym, ◌∙◌, ap, subst, inl, inr, get_or-set_same, get_or-set_other, nat_eq, eq-eqb, cond, ◌≢◌}
use Rattle.std.specs.Prelude.{ℤ, pos}
use Rattle.std.proofs.lemmas.Bool.{cases_eq, ne_eqb}
use Rattle.lx_circuit.specs.Places.{Values, At}
use Rattle.lx_circuit.specs.Circuit as circuit
use Rattle.lx_circuit.specs.Circuit.{Circuit, IsSettled, Role, by_role, first_state, made, next_state, role}
use Rattle.lx_fhdl.specs.Designs.{circuit_of}
use Rattle.lx_fhdl.specs.Keeping.{EachOf}
use Rattle.lx_fhdl.specs.Nodes.{value_at}
use Rattle.lx_fhdl.specs.declared.design.Design.{Design}
use Rattle.lx_emission.specs.Emits.{ShowsNothing}
use Rattle.lx_emission.proofs.Roles.{no_reads}
use Rattle.lx_sim.specs.Evaluating.{IsNextValue}
use Rattle.lx_sim.specs.Firsts.{AreFirst, IsFirst}
use Rattle.lx_sim.specs.Moments.{AreValues, with_input}
use Rattle.lx_sim.specs.Plans.{IsPlan}
use Rattle.lx_sim.specs.Settled.{Advances, AllFit, AreSourced, HaveSettled, is_comb}
use Rattle.lx_sim.specs.declared.plan.Plan.{Plan}
use Rattle.lx_trace.specs.Traces.{rises_of}

-- two settled moments have the same value of a signal that their inputs and states have in common
source_by : (c : Circuit) (state inputs v other after w : Values) (x : ℕ) (r : Role) → is_comb r ≡ false → ((j : ℕ) → r ≡ circuit.Read j → ⊥) → (r ≡ circuit.Input → inputs (At x) ≡ after (At x))
    → ((k : ℕ) → r ≡ circuit.Sync k → state (At x) ≡ other (At x)) → by_role c state inputs v x r ≡ by_role c other after w x r
source_by c state inputs v other after w x circuit.Input e none i s = i refl
source_by c state inputs v other after w x circuit.Comb e none i s = absurd cc
source_by c state inputs v other after w x (circuit.Sync d) e none i s = s d refl
source_by c state inputs v other after w x (circuit.Read j) e none i s = absurd (none j refl)
source_by c state inputs v other after w x circuit.Undriven e none i s = refl

pub other : (x y : ℕ) → y ≢ x → nat_eq x y ≡ false
other x y n = ne_eqb x y (λ e. n (sym e))

-- ---- an input has a new value

pub sourced_set : (d : Design) (x : ℕ) (z : ℤ) (state inputs v w : Values) (vals : List ℤ) → EachOf ShowsNothing (circuit_of d).ports → role (circuit_of d) x ≡ circuit.Input → x < length vals
    → IsSettled (circuit_of d) state inputs v → IsSettled (circuit_of d) state (with_input inputs x z) w → AreValues d vals v → AreSourced d w (set vals x z)
sourced_set d x z state inputs v w vals silent input room settled again are = record {
  each = λ y l e.
      elim (cases_eq y x) [
        | inl q ↦
            subst (λ (i : ℕ). value_at (set vals x z) i ≡ w (At i)) (sym q)
            (get_or-set_same vals x z _ room
            ∙ sym (again.each (At x) ∙ (ap (by_role (circuit_of d) state (with_input inputs x z) w x) input ∙ ap (λ (b : Bool). cond b z (inputs (At x))) (eq-eqb x x refl))))
        | inr q ↦
            get_or-set_other vals x y z _ q
            ∙ (are.each y l ∙ (settled.each (At y)
            ∙ (source_by (circuit_of d) state inputs v state (with_input inputs x z) w y (role (circuit_of d) y) e (no_reads (circuit_of d) silent y) (λ f. sym (ap (λ (b : Bool). cond b z (inputs (At y))) (other x y q))) (λ k f. refl)
            ∙ sym (again.each (At y)))))
      ];
}

-- ---- domains rise

advanced_by : (d : Design) (state inputs v w : Values) (x rises : ℕ) (vals known : List ℤ) (z : ℤ) (r : Role) → role (circuit_of d) x ≡ r → is_comb r ≡ false → ((j : ℕ) → r ≡ circuit.Read j → ⊥) → x < length d.signals → IsNextValue d x rises vals known z
    → IsSettled (circuit_of d) state inputs v → HaveSettled d v vals known → z ≡ by_role (circuit_of d) (next_state (circuit_of d) state v (rises_of rises)) inputs w x r
advanced_by d state inputs v w x rises vals known z circuit.Input is e none l value settled have =
    value.other (λ k f. let g : circuit.Input ≡ circuit.Sync k = sym is ∙ f in cc) ∙ (have.signals.each x l ∙ (settled.each (At x) ∙ ap (by_role (circuit_of d) state inputs v x) is))
advanced_by d state inputs v w x rises vals known z circuit.Comb is e none l value settled have = absurd cc
advanced_by d state inputs v w x rises vals known z (circuit.Sync k) is e none l value settled have =
    value.clocked state v k is have.exprs have.signals.each (sym (settled.each (At x) ∙ ap (by_role (circuit_of d) state inputs v x) is))
advanced_by d state inputs v w x rises vals known z (circuit.Read j) is e none l value settled have = absurd (none j refl)
advanced_by d state inputs v w x rises vals known z circuit.Undriven is e none l value settled have =
    value.other (λ k f. let g : circuit.Undriven ≡ circuit.Sync k = sym is ∙ f in cc) ∙ (have.signals.each x l ∙ (settled.each (At x) ∙ ap (by_role (circuit_of d) state inputs v x) is))

pub advanced : (p : Plan) (rises : ℕ) (vals known next : List ℤ) → IsPlan p → AllFit p vals known → length next ≡ length p.design.signals → ((x : ℕ) → x < length p.design.signals → IsNextValue p.design x rises vals known (value_at next x)) → Advances p rises vals known next
advanced p rises vals known next plan fit long each = record {
  fit = record { signals = long; signals_fit = λ x l. (each x l).fits; exprs = fit.exprs; exprs_fit = fit.exprs_fit };
  is = λ state inputs v w settled have again.
      record {
        each = λ x l e.
            advanced_by p.design state inputs v w x rises vals known (value_at next x) (role (circuit_of p.design) x) refl e (no_reads (circuit_of p.design) plan.memories.show_nothing x) l (each x l) settled have
            ∙ sym (again.each (At x));
      };
}

-- ---- at the start

first_by : (p : Plan) (w : Values) (x : ℕ) (z : ℤ) (r : Role) → role (circuit_of p.design) x ≡ r → is_comb r ≡ false → ((j : ℕ) → r ≡ circuit.Read j → ⊥) → IsFirst p x z → z ≡ by_role (circuit_of p.design) (first_state (circuit_of p.design)) (λ q. pos 0) w x r
first_by p w x z circuit.Input is e none first = first.input is
first_by p w x z circuit.Comb is e none first = absurd cc
first_by p w x z (circuit.Sync k) is e none first = first.other (λ f. let g : circuit.Sync k ≡ circuit.Input = sym is ∙ f in cc)
first_by p w x z (circuit.Read j) is e none first = absurd (none j refl)
first_by p w x z circuit.Undriven is e none first = first.other (λ f. let g : circuit.Undriven ≡ circuit.Input = sym is ∙ f in cc)

pub sourced_first : (p : Plan) (vals : List ℤ) (w : Values) → IsPlan p → AreFirst p (length p.design.signals) vals → IsSettled (circuit_of p.design) (first_state (circuit_of p.design)) (λ q. pos 0) w → AreSourced p.design w vals
sourced_first p vals w plan first settled = record {
  each = λ x l e. first_by p w x (value_at vals x) (role (circuit_of p.design) x) refl e (no_reads (circuit_of p.design) plan.memories.show_nothing x) (first.each x l) ∙ sym (settled.each (At x));
}
