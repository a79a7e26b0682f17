-- Orders of a graph's nodes, in which each stands after those that it reads.
use Rattle.std.specs.Prelude.{ℕ, ◌<◌, List, [], ◌∷◌, ◌++◌, length}
use Rattle.std.specs.List.{Contains}
use Rattle.lx_graph.specs.Graph.{Nodes, Reads}

-- a may come next after these: it isn't among them, and all that it reads is
pub record MayFollow (g : Nodes) (before : List ℕ) (a : ℕ) : Type 0 where
  pub node : a < length g.rows
  pub once : Contains before a → ⊥
  pub reads : (b : ℕ) → Reads g a b → Contains before b

-- each of the nodes may follow those before it
abbrev pub AreInTurn : Nodes → List ℕ → List ℕ → Type 0
AreInTurn g before [] = Unit {0}
AreInTurn g before (a ∷ others) = MayFollow g before a × AreInTurn g (before ++ a ∷ []) others

-- all nodes, each once and after those that it reads
pub record IsOrder (g : Nodes) (nodes : List ℕ) : Type 0 where
  pub all : (a : ℕ) → a < length g.rows → Contains nodes a
  pub turns : AreInTurn g [] nodes
