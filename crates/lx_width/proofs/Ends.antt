-- Lists that grow at the end, and the item of a turn of a loop.
use Rattle.std.proofs.Common.{◌≡◌, ℕ, zero, suc, ◌+◌, ◌<◌, List, [], ◌∷◌, ◌++◌, length, get_or, refl, sym, ap, ◌∙◌, arith, inl, inr}
use Rattle.std.specs.Prelude.{Some, slice_get, slice_index_or}
use Rattle.std.proofs.lemmas.Bool.{cases_lt}
use Rattle.std.proofs.lemmas.Option.{slice_get-get_or}

pub at_front : {T : Type 0} (xs : List T) (x : T) (k : ℕ) (d : T) → k < length xs → slice_index_or (xs ++ x ∷ []) k d ≡ slice_index_or xs k d
at_front [] x k d h = absurd (omega arith)
at_front (y ∷ ys) x zero d h = refl
at_front (y ∷ ys) x (suc k) d h = at_front ys x k d (omega arith)

pub at_last : {T : Type 0} (xs : List T) (x : T) (d : T) → slice_index_or (xs ++ x ∷ []) (length xs) d ≡ x
at_last [] x d = refl
at_last (y ∷ ys) x d = at_last ys x d

-- the item of a turn of a loop
pub item_there : {T : Type 0} (xs ys : List T) (k : ℕ) (x : T) → xs ≡ ys → k < length xs → x ≡ get_or xs k x → slice_get ys k ≡ Some x
item_there xs ys k x e h g = ap (λ (zs : List _). slice_get zs k) (sym e) ∙ slice_get-get_or xs k x h ∙ ap (λ (y : _). Some y) (sym g)

-- a value for each place below n, and one more
pub one_more : {T : Type 0} (xs : List T) (x d : T) (f : ℕ → T) (n : ℕ) → length xs ≡ n → ((k : ℕ) → k < n → slice_index_or xs k d ≡ f k) → x ≡ f n → (k : ℕ) → k < n + 1 → slice_index_or (xs ++ x ∷ []) k d ≡ f k
one_more xs x d f n long each here k h =
    elim (cases_lt k n) [
      | inl p ↦ at_front xs x k d (omega arith) ∙ each k p
      | inr p ↦
          let e : k ≡ length xs = omega arith in
          let g : n ≡ k = omega arith in
          ap (λ (j : ℕ). slice_index_or (xs ++ x ∷ []) j d) e ∙ at_last xs x d ∙ here ∙ ap f g
    ]
