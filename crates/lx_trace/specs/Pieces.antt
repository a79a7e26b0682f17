-- Bytes that are cut at a byte.
use Rattle.std.specs.Prelude.{ℕ, List, [], ◌∷◌, ◌++◌, nat_eq, if◌then◌else◌}

-- further bytes at the front of the first piece
abbrev pub with_front : List ℕ → List (List ℕ) → List (List ℕ)
with_front front [] = front ∷ []
with_front front (p ∷ ps) = (front ++ p) ∷ ps

-- The pieces between the bytes that are the mark: one more than there are marks.
unfoldable pub pieces : ℕ → List ℕ → List (List ℕ)
pieces mark [] = [] ∷ []
pieces mark (b ∷ bs) = if nat_eq b mark then [] ∷ pieces mark bs else with_front (b ∷ []) (pieces mark bs)
