-- Copies of nothing are nothing.
use Rattle.std.proofs.Common.{◌≡◌, ◌∙◌, ℕ, zero, suc, List, [], refl, sym}
use Rattle.lx_ops.specs.Binary.{copies}

nothing : {A : Type 0} (n : ℕ) (xs : List A) → xs ≡ [] → copies n xs ≡ []
unfolding copies
nothing zero xs e = refl
nothing (suc n) xs e = rw (nothing n xs e, e) refl

pub copies_of_nothing : {A : Type 0} (n : ℕ) (xs : List A) → xs ≡ [] → copies n xs ≡ xs
copies_of_nothing n xs e = nothing n xs e ∙ sym e
