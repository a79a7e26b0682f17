-- Levels of indentation.
use Rattle.std.proofs.Common.{◌≡◌, ℕ, zero, suc, ◌+◌, List, [], ◌∷◌, ◌++◌, codes, refl, ap, sym, ◌∙◌, append_assoc, add-one}
use Rattle.lx_vtext.specs.Printed.{indent}

suc_more : (k : ℕ) → indent k ++ codes "    " ≡ indent (suc k)
suc_more zero = refl
suc_more (suc k) = ap (λ x. codes "    " ++ x) (suc_more k)

-- a level more
pub margin_more : (out : List ℕ) (k : ℕ) → (out ++ indent k) ++ codes "    " ≡ out ++ indent (k + 1)
margin_more out k = append_assoc out (indent k) (codes "    ") ∙ ap (λ x. out ++ x) (suc_more k ∙ ap indent (sym (add-one k)))
