-- What was asked for of an FSM, place by place.
use Rattle.std.proofs.Common.{◌≡◌, refl, ◌∙◌, ap, ℕ, zero, suc, ◌+◌, ◌≤◌, List, [], ◌∷◌, ◌++◌, append_assoc, length, drop, map, slice_get, arith}
use Rattle.lx_state.specs.declared.machine.Ongoing.{Ongoing}
use Rattle.lx_description.specs.declared.fsms.Asked.{Asked}
use Rattle.lx_describe.specs.Fsms.{asked_at, asked_of}

asked_from : (es : List (List ℕ × Ongoing)) (k : ℕ) → asked_at (slice_get es k) ++ map asked_of (drop (k + 1) es) ≡ map asked_of (drop k es)
asked_from [] zero = refl
asked_from [] (suc k) = let more : suc k + 1 ≡ suc (k + 1) = omega arith in rw more refl
asked_from (e ∷ es) zero = refl
asked_from (e ∷ es) (suc k) = let more : suc k + 1 ≡ suc (k + 1) = omega arith in rw more (asked_from es k)

-- what was asked for at one place more is found
pub asked_more : (es : List (List ℕ × Ongoing)) (k : ℕ) (found whole : List Asked) → found ++ map asked_of (drop k es) ≡ whole → (found ++ asked_at (slice_get es k)) ++ map asked_of (drop (k + 1) es) ≡ whole
asked_more es k found whole is =
    append_assoc found (asked_at (slice_get es k)) (map asked_of (drop (k + 1) es)) ∙ ap (λ xs. found ++ xs) (asked_from es k) ∙ is

pub asked_end : (es : List (List ℕ × Ongoing)) (k : ℕ) → length es ≤ k → map asked_of (drop k es) ≡ []
asked_end [] zero l = refl
asked_end [] (suc k) l = refl
asked_end (e ∷ es) zero l = absurd (omega (arith, l))
asked_end (e ∷ es) (suc k) l = asked_end es k (omega (arith, l))
