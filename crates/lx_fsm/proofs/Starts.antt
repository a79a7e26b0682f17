-- Each FSM starts in its reset state.
use Rattle.std.proofs.Common.{◌≡◌, ℕ, pos, ◌+◌, ◌<◌, ◌≤◌, List, ◌∷◌, drop, get_or, length, refl, sym, ap, subst, ◌∙◌, arith}
use Rattle.lx_num.specs.declared.Shape.{Shape}
use Rattle.lx_num.specs.Ints.{Fits}
use Rattle.lx_fhdl.specs.Designs.{shapes}
use Rattle.lx_fhdl.specs.Keeping.{EachOf}
use Rattle.lx_fhdl.specs.declared.design.Design.{Design}
use Rattle.lx_description.specs.declared.fsms.FsmDecl.{FsmDecl}
use Rattle.lx_fsm.specs.Flattened.{start_of, with_starts}
use Rattle.lx_fsm.specs.Laid.{HasStart}
use Rattle.lx_fsm.proofs.Puts.{next_item, no_more}
use Rattle.lx_fsm.proofs.Ready.{each_at}
use Rattle.lx_fsm.proofs.Reopened.{another, reset_long, reset_shapes}

abbrev pub started : Design → List FsmDecl → Design
started d fs = record d { signals = with_starts fs d.signals }

-- with some of the starts; the rest are still to come
pub record Starting (d e : Design) (fs rest : List FsmDecl) : Type 0 where
  pub is : started e rest ≡ started d fs
  pub long : length e.signals ≡ length d.signals
  pub same : (x : ℕ) → shapes e x ≡ shapes d x

pub start_none : (d : Design) (fs : List FsmDecl) → Starting d d fs fs
start_none d fs = record { is = refl; long = refl; same = λ x. refl }

pub start_can : {d e : Design} (fs rest : List FsmDecl) (k : ℕ) (f : FsmDecl) → k < length fs → f ≡ get_or fs k f → EachOf (HasStart d) fs → Starting d e fs rest → HasStart e f
start_can {d} {e} fs rest k f l is all h =
    let one : HasStart d f = subst (HasStart d) (sym is) (each_at (HasStart d) fs k f all l) in
    record { there = omega (arith, h.long, one.there); fits = subst (λ (a : Shape). Fits a (pos (start_of f))) (sym (h.same f.state.0)) one.fits }

pub start_next : {d e g : Design} (fs : List FsmDecl) (k : ℕ) (f : FsmDecl) → k < length fs → f ≡ get_or fs k f → Starting d e fs (drop k fs) → g ≡ another e (pos (start_of f)) f.state.0 → Starting d g fs (drop (k + 1) fs)
start_next {d} {e} {g} fs k f l is h made =
    let q : drop k fs ≡ f ∷ drop (k + 1) fs = next_item fs k f l ∙ ap (λ (x : FsmDecl). x ∷ drop (k + 1) fs) (sym is) in
    record {
      is = ap (λ (y : Design). started y (drop (k + 1) fs)) made ∙ ap (started e) (sym q) ∙ h.is;
      long = ap (λ (y : Design). length y.signals) made ∙ reset_long (pos (start_of f)) f.state.0 e.signals ∙ h.long;
      same = λ x. ap (λ (y : Design). shapes y x) made ∙ reset_shapes e (pos (start_of f)) f.state.0 x ∙ h.same x;
    }

pub start_done : {d e : Design} (fs : List FsmDecl) (k : ℕ) → length fs ≤ k → Starting d e fs (drop k fs) → e ≡ started d fs
start_done {d} {e} fs k l h = ap (started e) (sym (no_more fs k l)) ∙ h.is
