-- Domains place by place.
use Rattle.std.proofs.Common.{◌≡◌, refl, ◌∙◌, ap, ℕ, zero, suc, ◌+◌, ◌≤◌, List, [], ◌∷◌, ◌++◌, append_assoc, length, drop, map, slice_get, arith}
use Rattle.lx_state.specs.declared.machine.DomainState.{DomainState}
use Rattle.lx_fragments.specs.declared.domains.Mention.{Mention}
use Rattle.lx_fragments.specs.Domains.{mention_at, mention_of}

mentions_from : (es : List (List ℕ × DomainState)) (k : ℕ) → mention_at (slice_get es k) ++ map mention_of (drop (k + 1) es) ≡ map mention_of (drop k es)
mentions_from [] zero = refl
mentions_from [] (suc k) = let more : suc k + 1 ≡ suc (k + 1) = omega arith in rw more refl
mentions_from (e ∷ es) zero = refl
mentions_from (e ∷ es) (suc k) = let more : suc k + 1 ≡ suc (k + 1) = omega arith in rw more (mentions_from es k)

-- the domain at one place more is found
pub mentions_more : (es : List (List ℕ × DomainState)) (k : ℕ) (found whole : List Mention) → found ++ map mention_of (drop k es) ≡ whole → (found ++ mention_at (slice_get es k)) ++ map mention_of (drop (k + 1) es) ≡ whole
mentions_more es k found whole is =
    append_assoc found (mention_at (slice_get es k)) (map mention_of (drop (k + 1) es)) ∙ ap (λ xs. found ++ xs) (mentions_from es k) ∙ is

pub mentions_end : (es : List (List ℕ × DomainState)) (k : ℕ) → length es ≤ k → map mention_of (drop k es) ≡ []
mentions_end [] zero l = refl
mentions_end [] (suc k) l = refl
mentions_end (e ∷ es) zero l = absurd (omega (arith, l))
mentions_end (e ∷ es) (suc k) l = mentions_end es k (omega (arith, l))
