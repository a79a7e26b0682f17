-- Nodes that read one another.
use Rattle.std.specs.Prelude.{ℕ, ◌<◌, ◌≤◌, List, [], length, slice_index_or}
use Rattle.std.specs.List.{Contains}

-- nodes by their numbers, each with the row of the nodes that it reads; those below `plain` are plain, the others inner
pub record Nodes : Type 0 where
  pub plain : ℕ
  pub rows : List (List ℕ)

-- the nodes that a reads
abbrev pub row : Nodes → ℕ → List ℕ
row g a = slice_index_or g.rows a []

-- a reads b
abbrev pub Reads : Nodes → ℕ → ℕ → Type 0
Reads g a b = Contains (row g a) b

-- a graph: what nodes read are nodes, and inner nodes read lower ones alone, so that no cycle has inner nodes alone
pub record IsGraph (g : Nodes) : Type 0 where
  pub plain : g.plain ≤ length g.rows
  pub nodes : (a b : ℕ) → Reads g a b → b < length g.rows
  pub lower : (a b : ℕ) → g.plain ≤ a → Reads g a b → b < a
