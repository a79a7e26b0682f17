-- Changing what stands at a place.
use Rattle.std.proofs.Common.{◌≡◌, ℕ, zero, suc, List, [], ◌∷◌, Option, Some, None, refl, ap, arith, slice_get, slice_set, ◌≤◌, length}
use Rattle.std.proofs.lemmas.Option.{slice_get_past}
use Rattle.lx_state.specs.Changes.{changed, changed_some}

pub set_twice : {A : Type 0} (xs : List A) (at : ℕ) (x y : A) → slice_set (slice_set xs at x) at y ≡ slice_set xs at y
set_twice [] at x y = refl
set_twice (z ∷ zs) zero x y = refl
set_twice (z ∷ zs) (suc at) x y = ap (λ us. z ∷ us) (set_twice zs at x y)

pub changed_there : {A : Type 0} (xs : List A) (at : ℕ) (f : A → A) (x : A) → slice_get xs at ≡ Some x → changed xs at f ≡ slice_set xs at (f x)
changed_there xs at f x e = rw e refl

pub not_changed : {A : Type 0} (xs : List A) (at : ℕ) (f : A → A) → length xs ≤ at → changed xs at f ≡ xs
not_changed xs at f past = rw (slice_get_past xs at past) refl
