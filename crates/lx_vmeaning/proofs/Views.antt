-- Exactly one view after every list of steps.
use Rattle.std.proofs.Common.{◌≡◌, ℕ, List, [], ◌∷◌, ◌∙◌, ap, subst}
use Rattle.std.proofs.Math.Path.{fun_ext}
use Rattle.lx_vtext.specs.Tree.{Name, VModule}
use Rattle.lx_vmeaning.specs.Meaning.{Valuation}
use Rattle.lx_vmeaning.specs.Runs.{VStep, v_next, v_first, VViewFrom}
use Rattle.lx_vmeaning.specs.Loops.{HasNoLoop}
use Rattle.lx_vmeaning.specs.Cycle.{HasCycleMeaning}
use Rattle.lx_vmeaning.specs.Settling.{IsSame, VSettlesOnce, VViewedOnce}
use Rattle.lx_vmeaning.proofs.Settle.{settles_once}

-- a view from a state, and no other
pub record FromOnce (m : VModule) (state : Valuation) (steps : List VStep) (inputs : Name → ℕ) : Type 0 where
  pub values : Valuation
  pub view : VViewFrom m state steps inputs values
  pub only : (v : Valuation) → VViewFrom m state steps inputs v → IsSame v values

pub same_valuation : (v u : Valuation) → IsSame v u → v ≡ u
same_valuation v u h =
    ap (λ (f : Name → ℕ). let r : Valuation = record { nets = f; words = v.words } in r) (fun_ext h.nets)
    ∙ ap (λ (f : Name → ℕ → ℕ). let r : Valuation = record { nets = u.nets; words = f } in r) (fun_ext (λ n. fun_ext (h.words n)))

pub from_once : (m : VModule) → HasNoLoop m → (state : Valuation) (steps : List VStep) (inputs : Name → ℕ) → FromOnce m state steps inputs
from_once m o state [] inputs =
    let one = settles_once m o state inputs in
    record { values = one.values; view = one.settled; only = one.only }
from_once m o state (t ∷ ts) inputs =
    let one = settles_once m o state t.inputs in
    let later = from_once m o (v_next m state one.values t.rises) ts inputs in
    record {
      values = later.values;
      view = (one.values, one.settled, later.view);
      only = λ v p. later.only v (let same : p.0 ≡ one.values = same_valuation p.0 one.values (one.only p.0 p.1) in subst (λ (w : Valuation). VViewFrom m (v_next m state w t.rises) ts inputs v) same p.2);
    }

pub settling : (m : VModule) → HasCycleMeaning m → (state : Valuation) (inputs : Name → ℕ) → VSettlesOnce m state inputs
settling m h state inputs = settles_once m h.no_loop state inputs

pub viewed_once : (m : VModule) → HasCycleMeaning m → (steps : List VStep) (inputs : Name → ℕ) → VViewedOnce m steps inputs
viewed_once m h steps inputs =
    let once = from_once m h.no_loop (v_first m) steps inputs in
    record { values = once.values; view = once.view; only = once.only }
