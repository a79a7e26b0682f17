-- Names that came one after the other.
use Rattle.std.specs.Prelude.{ℕ, Bool, true, not, ◌&&◌, List, [], ◌∷◌, ◌++◌, if◌then◌else◌}
use Rattle.std.specs.List.{list_any}
use Rattle.std.specs.Str.{bytes_eq}

-- the name behind the others, where it isn't there
abbrev pub with_new : List ℕ → List (List ℕ) → List (List ℕ)
with_new name names = if list_any (bytes_eq name) names then names else names ++ name ∷ []

-- none of the further names is one of those that came before it
abbrev pub are_new : List (List ℕ) → List (List ℕ) → Bool
are_new seen [] = true
are_new seen (name ∷ names) = not (list_any (bytes_eq name) seen) && are_new (seen ++ name ∷ []) names
