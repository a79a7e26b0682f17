-- A design without a fault has none.
use Rattle.std.proofs.Common.{◌≡◌, ℕ, zero, suc, ◌<◌, ◌≤◌, ◌+◌, ◌⊎◌, List, refl, [], ◌∷◌, Some, None, length, inl, inr, sym, subst, ◌∙◌, arith}
use Rattle.lx_circuit.specs.Places.{At}
use Rattle.lx_circuit.specs.Reads.{HasOrder}
use Rattle.lx_fhdl.specs.Designs.{circuit_of}
use Rattle.lx_fhdl.specs.declared.design.Design.{Design}
use Rattle.lx_graph.specs.Cycle.{Walk, OnCycle, IsWayBack, IsTold, IsLink}
use Rattle.lx_text.specs.declared.faults.Fault.{Fault}
use Rattle.lx_check.specs.Checked.{HasCheckFault, IsSound}
use Rattle.lx_check.specs.Faults.{first_fault}
use Rattle.lx_check.specs.Loops.{Links, IsLoopFault}

-- each link goes to a lower rank
walk_falls : (d : Design) (o : HasOrder (circuit_of d)) (x y n : ℕ) → Walk (Links d) x y n → o.rank (At y) + n ≤ o.rank (At x)
walk_falls d o x y zero w = let P : ℕ → Type 0 = λ z. o.rank (At z) + 0 ≤ o.rank (At x) in subst P w (omega arith)
walk_falls d o x y (suc n) (z, r, w) = let a = o.after x (At z) r in let b = walk_falls d o z y n w in omega arith

way_walk : (d : Design) (t a : ℕ) (others : List ℕ) → IsWayBack (Links d) t a others → Walk (Links d) a t (suc (length others))
way_walk d t a [] r = (t, r, refl)
way_walk d t a (c ∷ others) (l, w) = (c, l.link, way_walk d t c others w)

told_cycle : (d : Design) (cycle : List ℕ) → IsTold (Links d) cycle → (x : ℕ) × OnCycle (Links d) x
told_cycle d [] t = absurd t
told_cycle d (x ∷ others) t = (x, (length others, way_walk d x x others t.cycle))

order_no_loop : (d : Design) → HasOrder (circuit_of d) → (x : ℕ) → OnCycle (Links d) x → ⊥
order_no_loop d o x (n, w) = let f = walk_falls d o x x (suc n) w in absurd (omega arith)

-- where the check accepts a design, it refuses it by no fault
pub sound_has_none : (d : Design) (f : Fault) → IsSound d → HasCheckFault d f → ⊥
sound_has_none d f s h =
    elim h [
      | inl e ↦ absurd (cc)
      | inr l ↦ let (x, c) = told_cycle d l.1.cycle l.1.told in order_no_loop d s.order x c
    ]
