-- Graphs worked by hand.
use Rattle.std.specs.Prelude.{[], ◌∷◌}
use Rattle.lx_graph.specs.Graph.{Nodes, Reads}
use Rattle.lx_graph.specs.Order.{IsOrder}
use Rattle.lx_graph.specs.Cycle.{IsTold}
use Rattle.lx_graph.specs.Through.{Links}

-- 0 reads 1 and 2, and both read 0
abbrev pub fork : Nodes
fork = record { plain = 3; rows = (1 ∷ 2 ∷ []) ∷ (0 ∷ []) ∷ (0 ∷ []) ∷ [] }

-- 0 reads 1 through the inner node 2
abbrev pub line : Nodes
line = record { plain = 2; rows = (2 ∷ []) ∷ [] ∷ (1 ∷ []) ∷ [] }

-- What is told of them.
pub record AreWorked : Type 0 where
  pub told : IsTold (Reads fork) (0 ∷ 1 ∷ [])
  pub later_link : IsTold (Reads fork) (0 ∷ 2 ∷ []) → ⊥
  pub later_start : IsTold (Reads fork) (1 ∷ 0 ∷ []) → ⊥
  pub longer : IsTold (Reads fork) (0 ∷ 1 ∷ 0 ∷ 2 ∷ []) → ⊥
  pub through : Links line 0 1
  pub not_back : Links line 1 0 → ⊥
  pub not_inner : Links line 0 2 → ⊥
  pub ordered : IsOrder line (1 ∷ 2 ∷ 0 ∷ [])
  pub before_its_read : IsOrder line (2 ∷ 1 ∷ 0 ∷ []) → ⊥
  pub twice : IsOrder line (1 ∷ 2 ∷ 0 ∷ 1 ∷ []) → ⊥
  pub not_all : IsOrder line (1 ∷ 2 ∷ []) → ⊥
