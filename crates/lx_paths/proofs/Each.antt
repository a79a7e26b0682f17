-- The paths of the first signals, one after another.
use Rattle.std.proofs.Common.{◌≡◌, ◌∙◌, sym, ap, arith, ℕ, ◌+◌, List, [], ◌∷◌, ◌++◌, map, slice_get}
use Rattle.std.specs.List.{range_with_len}
use Rattle.std.proofs.lemmas.List.FromFn.{map-range_with_len_more}
use Rattle.lx_state.specs.declared.machine.Machine.{Machine}
use Rattle.lx_paths.specs.Paths.{owner_path}

abbrev pub path_at : Machine → ℕ → List (List ℕ)
path_at m x = owner_path m (slice_get m.owners x)

abbrev pub first_paths : Machine → ℕ → List (List (List ℕ))
first_paths m n = map (path_at m) (range_with_len 0 n)

pub next_path : (m : Machine) (n : ℕ) (paths : List (List (List ℕ))) (path : List (List ℕ)) → paths ≡ first_paths m n → path ≡ path_at m n → paths ++ path ∷ [] ≡ first_paths m (n + 1)
next_path m n paths path e f =
    ap (λ ps. ps ++ path ∷ []) e
    ∙ ap (λ p. first_paths m n ++ p ∷ []) f
    ∙ sym (map-range_with_len_more (path_at m) 0 n n (omega arith))
