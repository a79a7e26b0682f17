-- Tables of values under names.
use Rattle.std.specs.Prelude.{◌≡◌, ℕ, false, List, [], ◌∷◌, ◌++◌, Option, Some, None, map, position, slice_get, if◌then◌else◌}
use Rattle.std.specs.List.{IsDistinct}
use Rattle.std.specs.Str.{bytes_eq}

-- each name with its value, in the order in which the names came first
abbrev pub Table : Type 0 → Type 0
Table T = List (List ℕ × T)

-- the value under a name
abbrev pub look_up : {T : Type 0} → Table T → List ℕ → Option T
look_up [] name = None
look_up (e ∷ es) name = if bytes_eq name e.0 then Some e.1 else look_up es name

-- the value under the name: in the place of the old one, else behind all
abbrev pub with_name : {T : Type 0} → Table T → List ℕ → T → Table T
with_name [] name value = (name, value) ∷ []
with_name (e ∷ es) name value = if bytes_eq name e.0 then (e.0, value) ∷ es else e ∷ with_name es name value

-- nothing under the name
abbrev pub without : {T : Type 0} → Table T → List ℕ → Table T
without [] name = []
without (e ∷ es) name = if bytes_eq name e.0 then es else e ∷ without es name

abbrev pub names : {T : Type 0} → Table T → List (List ℕ)
names es = map (λ e. e.0) es

-- the place of a name
abbrev pub place_of : {T : Type 0} → Table T → List ℕ → Option ℕ
place_of es name = position (bytes_eq name) (names es)

-- no name stands twice
abbrev pub AreDistinct : {T : Type 0} → Table T → Type 0
AreDistinct es = IsDistinct bytes_eq (names es)

-- What the changes of a table do to what it says.
pub record TableHolds (T : Type 0) : Type 0 where
  pub set : (es : Table T) (name : List ℕ) (value : T) → look_up (with_name es name value) name ≡ Some value
  pub set_elsewhere : (es : Table T) (name other : List ℕ) (value : T) → bytes_eq other name ≡ false → look_up (with_name es name value) other ≡ look_up es other
  pub set_new : (es : Table T) (name : List ℕ) (value : T) → look_up es name ≡ None → with_name es name value ≡ es ++ (name, value) ∷ []
  pub set_distinct : (es : Table T) (name : List ℕ) (value : T) → AreDistinct es → AreDistinct (with_name es name value)
  pub place : (es : Table T) (name : List ℕ) (k : ℕ) → place_of es name ≡ Some k → (value : T) × (look_up es name ≡ Some value) × (slice_get es k ≡ Some (name, value))
  pub removed : (es : Table T) (name : List ℕ) → AreDistinct es → look_up (without es name) name ≡ None
  pub removed_elsewhere : (es : Table T) (name other : List ℕ) → bytes_eq other name ≡ false → look_up (without es name) other ≡ look_up es other
  pub removed_distinct : (es : Table T) (name : List ℕ) → AreDistinct es → AreDistinct (without es name)
