-- Nodes whose children stand before them.
use Rattle.std.specs.Prelude.{ℕ, Bool, true, List, [], ◌∷◌, ◌+◌, ◌&&◌, IfSome, IsTrue, slice_get}

-- each node's children are lower than its own place
abbrev pub EachLower : {T : Type 0} → (T → ℕ → Bool) → List T → Type 0
EachLower {T} below xs = (k : ℕ) → IfSome (slice_get xs k) (λ x. IsTrue (below x k))

-- a test of each item beside its place, which counts from n on
abbrev pub all_at : {T : Type 0} → (T → ℕ → Bool) → ℕ → List T → Bool
all_at test n [] = true
all_at test n (x ∷ xs) = test x n && all_at test (n + 1) xs
