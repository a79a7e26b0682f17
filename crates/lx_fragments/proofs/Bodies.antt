-- States place by place.
use Rattle.std.proofs.Common.{◌≡◌, refl, ◌∙◌, ap, ℕ, zero, suc, ◌+◌, ◌≤◌, List, [], ◌∷◌, ◌++◌, append_assoc, length, drop, map, slice_get, arith}
use Rattle.lx_state.specs.declared.machine.Fsm.{Fsm}
use Rattle.lx_fragments.specs.declared.states.Body.{Body}
use Rattle.lx_fragments.specs.States.{body_at, body_of}

bodies_from : (f : Fsm) (es : List (List ℕ × ℕ)) (k : ℕ) → body_at f (slice_get es k) ++ map (body_of f) (drop (k + 1) es) ≡ map (body_of f) (drop k es)
bodies_from f [] zero = refl
bodies_from f [] (suc k) = let more : suc k + 1 ≡ suc (k + 1) = omega arith in rw more refl
bodies_from f (e ∷ es) zero = refl
bodies_from f (e ∷ es) (suc k) = let more : suc k + 1 ≡ suc (k + 1) = omega arith in rw more (bodies_from f es k)

-- the state at one place more is found
pub bodies_more : (f : Fsm) (es : List (List ℕ × ℕ)) (k : ℕ) (found whole : List Body) → found ++ map (body_of f) (drop k es) ≡ whole → (found ++ body_at f (slice_get es k)) ++ map (body_of f) (drop (k + 1) es) ≡ whole
bodies_more f es k found whole is =
    append_assoc found (body_at f (slice_get es k)) (map (body_of f) (drop (k + 1) es)) ∙ ap (λ xs. found ++ xs) (bodies_from f es k) ∙ is

pub bodies_end : (f : Fsm) (es : List (List ℕ × ℕ)) (k : ℕ) → length es ≤ k → map (body_of f) (drop k es) ≡ []
bodies_end f [] zero l = refl
bodies_end f [] (suc k) l = refl
bodies_end f (e ∷ es) zero l = absurd (omega (arith, l))
bodies_end f (e ∷ es) (suc k) l = bodies_end f es k (omega (arith, l))
