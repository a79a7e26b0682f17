-- The tree that hangs at a place of an arena, and arenas that grow.
use Rattle.std.specs.Prelude.{◌≡◌, ℕ, Bool, true, List, Option, Some, None, ◌<◌, ◌≤◌, length, slice_get}
use Rattle.std.proofs.Common.{zero, suc}

-- one level: the tree of the node that stands there, from the trees at the places of its children
abbrev pub level : {N T : Type 0} → T → ((ℕ → T) → N → T) → (ℕ → T) → Option N → T
level none node f (Some x) = node f x
level none node f None = none

-- so many levels
abbrev pub fold_within : {N T : Type 0} → T → ((ℕ → T) → N → T) → List N → ℕ → ℕ → T
fold_within none node xs zero k = none
fold_within none node xs (suc n) k = level none node (fold_within none node xs n) (slice_get xs k)

-- The tree that hangs at a place. Children stand lower than their node, so its place bounds the levels.
unfoldable pub fold_at : {N T : Type 0} → T → ((ℕ → T) → N → T) → List N → ℕ → T
fold_at none node xs k = fold_within none node xs (suc k) k

-- the same trees below n
abbrev pub Same : {T : Type 0} → (ℕ → T) → (ℕ → T) → ℕ → Type 0
Same f g n = (k : ℕ) → k < n → f k ≡ g k

-- a node's tree hangs on the trees of its children alone, which are lower than n where `below` says so
pub record IsLocal {N T : Type 0} (below : N → ℕ → Bool) (node : (ℕ → T) → N → T) : Type 0 where
  pub same : (f g : ℕ → T) (n : ℕ) (x : N) → Same f g n → below x n ≡ true → node f x ≡ node g x

-- ---- growth; `tree xs k` is the tree that hangs at the place k of the arena xs

-- what was there stays: each old node, and the tree at its place
pub record Grows {N T : Type 0} (tree : List N → ℕ → T) (old new : List N) : Type 0 where
  pub longer : length old ≤ length new
  pub nodes : (k : ℕ) → k < length old → slice_get new k ≡ slice_get old k
  pub trees : (k : ℕ) → k < length old → tree new k ≡ tree old k

-- what was there stays, and a tree more hangs at a place
pub record Hangs {N T : Type 0} (tree : List N → ℕ → T) (old new : List N) (place : ℕ) (t : T) : Type 0 where
  pub grows : Grows tree old new
  pub within : place < length new
  pub is : tree new place ≡ t

-- a node more, whose tree is made of the old trees
abbrev pub Added : {N T : Type 0} → (List N → ℕ → T) → ((ℕ → T) → N → T) → List N → List N → ℕ → N → Type 0
Added tree node old new place x = Hangs tree old new place (node (tree old) x)
