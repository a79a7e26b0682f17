-- A simulator between two calls.
use Rattle.std.proofs.Common.{◌≡◌, ℕ, ◌<◌, ◌≤◌, List, ◌++◌, length, replicate, set, take, sym, ◌∙◌, ap, subst, arith, inl, inr, get_or-set_same, get_or-set_other, length-set}
use Rattle.std.specs.Prelude.{ℤ, pos, slice_index_or}
use Rattle.std.proofs.Math.Seq.{take-append_seam}
use Rattle.std.proofs.lemmas.Bool.{cases_eq}
use Rattle.std.proofs.lemmas.List.{get_or-replicate, length-replicate}
use Rattle.lx_num.specs.declared.Shape.{Shape}
use Rattle.lx_num.specs.Ints.{Fits}
use Rattle.lx_circuit.specs.Circuit as circuit
use Rattle.lx_circuit.specs.Circuit.{Made, nothing, role}
use Rattle.lx_fhdl.specs.Designs.{circuit_of, shapes}
use Rattle.lx_fhdl.specs.Nodes.{shape_at, value_at}
use Rattle.lx_fhdl.specs.declared.design.Design.{Design}
use Rattle.lx_lower.specs.Lowers.{IsLoweringOf}
use Rattle.lx_plain.proofs.Sound.{shape_small, sound}
use Rattle.lx_sim.specs.Firsts.{AreFirst}
use Rattle.lx_sim.specs.Plans.{IsPlan, IsPlanOf}
use Rattle.lx_sim.specs.Ready.{IsReady}
use Rattle.lx_sim.specs.Settled.{AllFit, Settles}
use Rattle.lx_sim.specs.Words.{HaveWords}
use Rattle.lx_sim.specs.declared.plan.Plan.{Plan}
use Rattle.lx_sim.proofs.Evaluation.{draft_of}
use Rattle.lx_sim.proofs.Firsts.{zero_fits}
use Rattle.lx_sim.proofs.Inputs.{input_there}

-- a lowered design has the signals of the design
pub signals_same : (d e : Design) → IsLoweringOf d e → length e.signals ≡ length d.signals
signals_same d e of = ap length of.signals

shapes_same : (d e : Design) (x : ℕ) → IsLoweringOf d e → shapes e x ≡ shapes d x
shapes_same d e x of = ap (λ (ss : List Made). (slice_index_or ss x nothing).shape) of.lowers.parts.signals

-- ---- values that fit

-- first values, and 0 for each expression
pub first_fit : (p : Plan) (vals known : List ℤ) → IsPlan p → AreFirst p (length p.design.signals) vals → known ≡ replicate (length p.design.exprs) (pos 0) → AllFit p vals known
first_fit p vals known plan first zeros = record {
  signals = first.long;
  signals_fit = λ x l. (first.each x l).fits;
  exprs = ap length zeros ∙ length-replicate (length p.design.exprs) (pos 0);
  exprs_fit = λ k l.
      let d = p.design in
      let small = shape_small (shapes d) (length d.signals) d.memories d.exprs k (sound d (draft_of d plan.keeps)) l in
      let some : 1 ≤ (shape_at p.shapes k).bits = subst (λ (n : ℕ). 1 ≤ n) (ap (λ (a : Shape). a.bits) (sym (plan.shapes.each k l))) small.some in
      subst (λ (z : ℤ). Fits (shape_at p.shapes k) z) (sym (ap (λ (zs : List ℤ). value_at zs k) zeros ∙ get_or-replicate (length d.exprs) k (pos 0) (pos 0) l)) (zero_fits (shape_at p.shapes k).bits (shape_at p.shapes k).signed some);
}

-- an input has a new value
pub set_fit : (d : Design) (p : Plan) (vals known : List ℤ) (x : ℕ) (z : ℤ) → IsPlanOf d p → AllFit p vals known → Fits (shapes d x) z → x < length vals → AllFit p (set vals x z) known
set_fit d p vals known x z of fit f room = record {
  signals = length-set vals x z ∙ fit.signals;
  signals_fit = λ y l.
      elim (cases_eq y x) [
        | inl e ↦
            subst (λ (i : ℕ). Fits (shapes p.design i) (value_at (set vals x z) i)) (sym e)
            (subst (λ (q : ℤ). Fits (shapes p.design x) q) (sym (get_or-set_same vals x z _ room)) (subst (λ (a : Shape). Fits a z) (sym (shapes_same d p.design x of.lowering)) f))
        | inr e ↦ subst (λ (q : ℤ). Fits (shapes p.design y) q) (sym (get_or-set_other vals x y z _ e)) (fit.signals_fit y l)
      ];
  exprs = fit.exprs;
  exprs_fit = fit.exprs_fit;
}

-- ---- places

pub input_within : (d : Design) (p : Plan) (vals : List ℤ) (words : List (List ℤ)) (known next : List ℤ) (x : ℕ) → IsReady d p vals words known next → role (circuit_of d) x ≡ circuit.Input → x < length vals
input_within d p vals words known next x ready input =
    let of = ready.planned in
    let l = input_there p.design x of.plan.keeps (sym (of.lowering.lowers.roles x) ∙ input) in
    omega (arith, l, ready.fit.signals)

pub signal_within : (d : Design) (p : Plan) (vals : List ℤ) (words : List (List ℤ)) (known next : List ℤ) (x : ℕ) → IsReady d p vals words known next → x < length d.signals → x < length vals
signal_within d p vals words known next x ready l = omega (arith, l, signals_same d p.design ready.planned.lowering, ready.fit.signals)

-- ---- between two calls

-- the items of a vector that a slice of the same length was written back to
pub written_back : {A : Type 0} (n : ℕ) (xs ys : List A) → n ≡ length xs → take n (xs ++ ys) ≡ xs
written_back n xs ys e = ap (λ (k : ℕ). take k (xs ++ ys)) e ∙ take-append_seam xs ys

pub is_ready : (d : Design) (p : Plan) (start vals : List ℤ) (words : List (List ℤ)) (known next : List ℤ) → IsPlanOf d p → HaveWords p.design words → length next ≡ length p.design.signals → Settles p words start vals known → IsReady d p vals words known next
is_ready d p start vals words known next of have long settles = record { planned = of; fit = settles.fit; have = have; long = long; right = settles.right }

-- what slices of the same lengths are written back to
pub ready_back : (d : Design) (p : Plan) (vals : List ℤ) (words : List (List ℤ)) (known next xs ys : List ℤ) (n m : ℕ) → n ≡ length vals → m ≡ length known → IsReady d p vals words known next → IsReady d p (take n (vals ++ xs)) words (take m (known ++ ys)) next
ready_back d p vals words known next xs ys n m e f ready =
    subst (λ (zs : List ℤ). IsReady d p zs words (take m (known ++ ys)) next) (sym (written_back n vals xs e)) (subst (λ (zs : List ℤ). IsReady d p vals words zs next) (sym (written_back m known ys f)) ready)

pub zeros_long : (xs : List ℤ) (n k : ℕ) → xs ≡ replicate n (pos 0) → n ≡ k → length xs ≡ k
zeros_long xs n k e f = ap length e ∙ (length-replicate n (pos 0) ∙ f)
