-- Memories that get their paths, one after another.
use Rattle.std.proofs.Common.{◌≡◌, refl, sym, ◌∙◌, ap, ℕ, zero, suc, ◌+◌, ◌≤◌, List, [], ◌∷◌, ◌++◌, append_assoc, append-nil, length, drop, slice_get, slice_set, Option, Some, None, arith}
use Rattle.std.proofs.lemmas.List.{drop-set-lt, drop_all, drop_more}
use Rattle.std.proofs.lemmas.Option.{get_or_from_slice_get, slice_get_within}
use Rattle.lx_fhdl.specs.declared.design.Memory.{Memory}
use Rattle.lx_describe.specs.Memories.{at_path, with_paths}

-- what stands past a place stays where that place is set
pub drop_past : {T : Type 0} (xs : List T) (k : ℕ) (x : T) → drop (k + 1) (slice_set xs k x) ≡ drop (k + 1) xs
drop_past xs k x = drop-set-lt (k + 1) xs k x (omega arith)

drop_at : {T : Type 0} (xs : List T) (k : ℕ) (x : T) → slice_get xs k ≡ Some x → drop k xs ≡ x ∷ drop (k + 1) xs
drop_at xs k x e = drop_more xs k x (slice_get_within xs k x e) ∙ ap (λ y. y ∷ drop (k + 1) xs) (get_or_from_slice_get xs k x x e)

one_pathed : (ps : List (List (List ℕ))) (k : ℕ) (x : Memory) (xs : List Memory) → with_paths (drop k ps) (x ∷ xs) ≡ at_path (slice_get ps k) x ∷ with_paths (drop (k + 1) ps) xs
unfolding with_paths
one_pathed [] zero x xs = refl
one_pathed [] (suc k) x xs = let more : suc k + 1 ≡ suc (k + 1) = omega arith in rw more refl
one_pathed (p ∷ ps) zero x xs = refl
one_pathed (p ∷ ps) (suc k) x xs = let more : suc k + 1 ≡ suc (k + 1) = omega arith in rw more (one_pathed ps k x xs)

none_pathed : (ps : List (List (List ℕ))) → with_paths ps [] ≡ []
unfolding with_paths
none_pathed [] = refl
none_pathed (p ∷ ps) = refl

-- the memory at one place more got its path
pub pathed_more : (ps : List (List (List ℕ))) (xs named whole : List Memory) (k : ℕ) (x : Memory) → slice_get xs k ≡ Some x → named ++ with_paths (drop k ps) (drop k xs) ≡ whole
    → (named ++ at_path (slice_get ps k) x ∷ []) ++ with_paths (drop (k + 1) ps) (drop (k + 1) xs) ≡ whole
pathed_more ps xs named whole k x e is =
    let next = drop (k + 1) xs in
    append_assoc named (at_path (slice_get ps k) x ∷ []) (with_paths (drop (k + 1) ps) next)
    ∙ ap (λ ys. named ++ ys) (sym (one_pathed ps k x next))
    ∙ ap (λ ys. named ++ with_paths (drop k ps) ys) (sym (drop_at xs k x e))
    ∙ is

-- all of them did
pub pathed_end : (ps : List (List (List ℕ))) (xs named whole : List Memory) (k : ℕ) → length xs ≤ k → named ++ with_paths (drop k ps) (drop k xs) ≡ whole → named ≡ whole
pathed_end ps xs named whole k l is =
    sym (append-nil named)
    ∙ ap (λ ys. named ++ ys) (sym (none_pathed (drop k ps)))
    ∙ ap (λ ys. named ++ with_paths (drop k ps) ys) (sym (drop_all k xs l))
    ∙ is
