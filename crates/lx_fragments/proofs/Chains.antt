-- The branches of an `If`, from the last one back.
use Rattle.std.proofs.Common.{◌≡◌, refl, ◌∙◌, ap, sym, ℕ, zero, suc, ◌-◌, ◌<◌, List, [], ◌∷◌, ◌++◌, append_assoc, append-nil, Option, Some, None, arith, slice_get}
use Rattle.lx_state.specs.declared.machine.Made.{Made}
use Rattle.lx_fragments.specs.Laying.{before, chain}

chain_end : (made : List Made) (n : ℕ) → chain made n None ≡ []
unfolding chain
chain_end made zero = refl
chain_end made (suc n) = refl

-- no branch is before the ones found
pub chain_ended : (made : List Made) (n : ℕ) (next : Option ℕ) (found whole : List ℕ) → found ++ chain made n next ≡ whole → next ≡ None → found ≡ whole
chain_ended made n next found whole is none = sym (append-nil found) ∙ ap (λ ats. found ++ ats) (sym (chain_end made n)) ∙ ap (λ o. found ++ chain made n o) (sym none) ∙ is

-- as many are found as there are statements
pub chain_over : (made : List Made) (n : ℕ) (next : Option ℕ) (found whole : List ℕ) → found ++ chain made n next ≡ whole → n ≡ 0 → found ≡ whole
unfolding chain
chain_over made zero next found whole is e = sym (append-nil found) ∙ is
chain_over made (suc n) next found whole is e = absurd (omega (arith, e))

-- one branch more is found
pub chain_more : (made : List Made) (n at : ℕ) (next : Option ℕ) (found whole : List ℕ) → found ++ chain made n next ≡ whole → next ≡ Some at → 0 < n → (found ++ at ∷ []) ++ chain made (n - 1) (before (slice_get made at)) ≡ whole
unfolding chain
chain_more made zero at next found whole is some l = absurd (omega (arith, l))
chain_more made (suc n) at next found whole is some l =
    let less : suc n - 1 ≡ n = omega arith in
    rw less (append_assoc found (at ∷ []) (chain made n (before (slice_get made at))) ∙ ap (λ o. found ++ chain made (suc n) o) (sym some) ∙ is)
