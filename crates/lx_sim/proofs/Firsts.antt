-- First values, and that they fit.
use Rattle.std.proofs.Common.{◌≡◌, ℕ, Bool, true, false, ◌+◌, ◌-◌, ◌≤◌, List, [], ◌∷◌, ◌++◌, length, refl, sym, ◌∙◌, ap, subst, arith, inl, inr, length-append}
use Rattle.std.specs.Prelude.{ℤ, pos, Option, None, Some, slice_get}
use Rattle.std.proofs.Math.ListN.{get_or-append}
use Rattle.std.proofs.Math.Seq.{get_or-append_seam}
use Rattle.std.proofs.lemmas.Bool.{cases_lt}
use Rattle.std.proofs.lemmas.Nat.{pow_pos}
use Rattle.lx_num.specs.declared.Shape.{Shape}
use Rattle.lx_num.specs.Ints.{Fits, FitsBits}
use Rattle.lx_num.proofs.Ranges.{fits_pos, fits_signed}
use Rattle.lx_circuit.specs.Circuit as circuit
use Rattle.lx_circuit.specs.Circuit.{Made, Role, role}
use Rattle.lx_fhdl.specs.Below.{ExprId, StmtId}
use Rattle.lx_fhdl.specs.Designs.{circuit_of, shapes}
use Rattle.lx_fhdl.specs.Keeping.{Keeps}
use Rattle.lx_fhdl.specs.Nodes.{value_at}
use Rattle.lx_fhdl.specs.declared.design.Signal.{Signal}
use Rattle.lx_fhdl.specs.declared.design.Design.{Design}
use Rattle.lx_fhdl.proofs.Designs.{signal_some}
use Rattle.lx_emission.specs.Signals as signals
use Rattle.lx_emission.specs.Signals.{comb_drive, drive, drive_by, own, single}
use Rattle.lx_sheet.proofs.Owners.{made_is}
use Rattle.lx_sim.specs.Firsts.{AreFirst, IsFirst}
use Rattle.lx_sim.specs.Plans.{IsPlan}
use Rattle.lx_sim.specs.declared.plan.Plan.{Plan}
use Rattle.lx_sim.proofs.Targets.{signal_is}

pub zero_fits : (n : ℕ) (signed : Bool) → 1 ≤ n → FitsBits n signed (pos 0)
zero_fits n true h = fits_signed n (pos 0) (omega (arith, pow_pos (n - 1))) (omega (arith, pow_pos (n - 1)))
zero_fits n false h = fits_pos n 0 (pow_pos n)

-- ---- inputs

no_comb : (d : Design) (ids : List StmtId) (o : Option ExprId) → comb_drive ids o ≡ signals.Input → ⊥
no_comb d ids None e = absurd cc
no_comb d ids (Some value) e = absurd cc

input_by : (d : Design) (x : ℕ) (r : Role) → drive_by d x r ≡ signals.Input → r ≡ circuit.Input
input_by d x circuit.Input e = refl
input_by d x circuit.Comb e = absurd (no_comb d (own d x d.comb) (single d (own d x d.comb)) e)
input_by d x (circuit.Sync k) e = absurd cc
input_by d x (circuit.Read j) e = absurd cc
input_by d x circuit.Undriven e = absurd cc

-- what is driven as an input is one
pub input_is : (d : Design) (x : ℕ) → drive d x ≡ signals.Input → role (circuit_of d) x ≡ circuit.Input
unfolding drive
input_is d x e = input_by d x (role (circuit_of d) x) e

pub driven_input : (d : Design) (x : ℕ) → role (circuit_of d) x ≡ circuit.Input → drive d x ≡ signals.Input
unfolding drive
driven_input d x e = ap (drive_by d x) e

-- ---- one signal

-- its reset value is one of its shape
pub reset_fits : (d : Design) (x : ℕ) (s : Signal) → Keeps d → slice_get d.signals x ≡ Some s → Fits (shapes d x) s.reset
reset_fits d x s keeps found = subst (λ (a : Shape). Fits a s.reset) (sym (ap (λ (m : Made). m.shape) (made_is d x s found))) (signal_is d x s keeps found).reset

pub first_input : (p : Plan) (x : ℕ) → IsPlan p → drive p.design x ≡ signals.Input → IsFirst p x (pos 0)
first_input p x plan e = record {
  fits = zero_fits (shapes p.design x).bits (shapes p.design x).signed (signal_some p.design plan.keeps x);
  input = λ r. refl;
  other = λ none. absurd (none (input_is p.design x e));
}

pub first_other : (p : Plan) (x : ℕ) (s : Signal) (g : signals.Drive) → IsPlan p → slice_get p.design.signals x ≡ Some s → drive p.design x ≡ g → (g ≡ signals.Input → ⊥) → IsFirst p x s.reset
first_other p x s g plan found e none = record {
  fits = reset_fits p.design x s plan.keeps found;
  input = λ r. absurd (none (sym e ∙ driven_input p.design x r));
  other = λ f. sym (ap (λ (m : Made). m.reset) (made_is p.design x s found));
}

-- ---- all signals

pub none_first : (p : Plan) (vals : List ℤ) → vals ≡ [] → AreFirst p 0 vals
none_first p vals e = record { long = ap length e; each = λ x l. absurd (omega arith) }

pub one_first : (p : Plan) (n : ℕ) (vals new : List ℤ) (z : ℤ) → AreFirst p n vals → IsFirst p n z → new ≡ vals ++ z ∷ [] → AreFirst p (n + 1) new
one_first p n vals new z are is e = subst (AreFirst p (n + 1)) (sym e) (record {
  long = omega (arith, length-append vals (z ∷ []), are.long);
  each = λ x l.
      elim (cases_lt x n) [
        | inl q ↦ subst (IsFirst p x) (sym (get_or-append vals (z ∷ []) (pos 0) x (omega (arith, q, are.long)))) (are.each x q)
        | inr q ↦
            let here : n ≡ x = omega arith in
            subst (λ (i : ℕ). IsFirst p i (value_at (vals ++ z ∷ []) i)) here
            (subst (IsFirst p n) (sym (ap (value_at (vals ++ z ∷ [])) (sym are.long) ∙ get_or-append_seam vals z [] (pos 0))) is)
      ];
})
