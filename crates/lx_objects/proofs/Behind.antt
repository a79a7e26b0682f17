-- Gathering places behind those that stand already.
use Rattle.std.proofs.Common.{◌≡◌, ◌∙◌, ◌+◌, ◌<◌, sym, subst, ℕ, List, [], ◌∷◌, ◌++◌, Result, Ok, Err, refl, ap, append_assoc, length, drop, get_or, add-one, drop-cons}
use Rattle.lx_text.specs.declared.faults.Fault.{Fault}
use Rattle.lx_state.specs.declared.values.Value.{Value}
use Rattle.lx_objects.specs.Statements.{Found, all_hanging, behind, both}

abbrev IsFound : Found → Type 0
IsFound (Ok xs) = Unit {0}
IsFound (Err f) = ⊥

abbrev places : List ℕ → Found → List ℕ
places xs (Ok ys) = ys
places xs (Err f) = xs

pub behind_both : (old new : List ℕ) (first rest : Found) → behind old first ≡ Ok new → behind old (both first rest) ≡ behind new rest
behind_both old new (Err f) rest e = absurd (subst IsFound (sym e) tt)
behind_both old new (Ok xs) (Err f) e = refl
behind_both old new (Ok xs) (Ok ys) e = ap Ok (sym (append_assoc old xs ys) ∙ ap (λ zs. zs ++ ys) (ap (places old) e))

pub behind_err : (old : List ℕ) (found : Found) (f : Fault) → behind old found ≡ Err f → found ≡ Err f
behind_err old (Err g) f e = e
behind_err old (Ok xs) f e = absurd (subst IsFound e tt)

-- one value more
pub gathered : (f : Value → Found) (vs : List Value) (i : ℕ) (d : Value) (old new : List ℕ) → i < length vs → behind old (f (get_or vs i d)) ≡ Ok new → behind new (all_hanging f (drop (i + 1) vs)) ≡ behind old (all_hanging f (drop i vs))
unfolding all_hanging
gathered f vs i d old new l e =
    let next : drop i vs ≡ get_or vs i d ∷ drop (i + 1) vs = drop-cons vs i d l ∙ ap (λ (j : ℕ). get_or vs i d ∷ drop j vs) (sym (add-one i)) in
    sym (behind_both old new (f (get_or vs i d)) (all_hanging f (drop (i + 1) vs)) e) ∙ ap (λ (xs : List Value). behind old (all_hanging f xs)) (sym next)
