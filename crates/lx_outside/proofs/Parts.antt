-- A call that fails says a prefix, or stores at most one pair with a prefix.
use Rattle.std.proofs.Common.{◌≡◌, ℕ, Bool, true, false, List, [], ◌∷◌, ◌++◌, length, take, Option, Some, None, cond, refl, sym, ap, ◌∙◌, inl, inr, arith}
use Rattle.std.proofs.lemmas.List.{append-nil, take_all}
use Rattle.lx_outside.specs.declared.calls.Pair.{Pair}
use Rattle.lx_outside.specs.Calls.{SaysPart, StoresPart, pair}
use Rattle.lx_outside.specs.Memory.{front_of}

pub says_part : (added : Bool) (taken : Option ℕ) (old new bytes : List ℕ) → new ≡ cond added (old ++ front_of taken bytes) old → SaysPart (Some old) (Some new) bytes
says_part true None old new bytes e = (length bytes, ap Some (e ∙ ap (λ (t : List ℕ). old ++ t) (sym (take_all _ bytes (omega arith)))))
says_part true (Some k) old new bytes e = (k, ap Some e)
says_part false taken old new bytes e = (0, ap Some (e ∙ sym (append-nil old)))

pub stores_part : (added : Bool) (taken : Option ℕ) (old new : List Pair) (name bytes : List ℕ) → new ≡ cond added (old ++ pair name (front_of taken bytes) ∷ []) old → StoresPart (Some old) (Some new) name bytes
stores_part true None old new name bytes e =
    inr (length bytes, ap Some (e ∙ ap (λ (t : List ℕ). old ++ pair name t ∷ []) (sym (take_all _ bytes (omega arith)))))
stores_part true (Some k) old new name bytes e = inr (k, ap Some e)
stores_part false taken old new name bytes e = inl (ap Some e)
