-- Lists in which one item changes.
use Rattle.std.specs.Prelude.{ℕ, List, slice_get, slice_set, Option, Some, None}

-- what stands at a place is changed
abbrev pub changed_some : {A : Type 0} → List A → ℕ → (A → A) → Option A → List A
changed_some xs at f None = xs
changed_some xs at f (Some x) = slice_set xs at (f x)

abbrev pub changed : {A : Type 0} → List A → ℕ → (A → A) → List A
changed xs at f = changed_some xs at f (slice_get xs at)
