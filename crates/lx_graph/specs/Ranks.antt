-- Ranks of nodes, by which nodes on no cycle are told apart.
use Rattle.std.specs.Prelude.{◌≡◌, ℕ, ◌+◌, ◌<◌, ◌≤◌, Bool, true, false, List, Option, Some, length}
use Rattle.std.specs.Bool.{OnTrue}
use Rattle.std.specs.List.{All}
use Rattle.lx_graph.specs.Graph.{Nodes, Reads}
use Rattle.lx_graph.specs.Levels.{level_of, unset}
use Rattle.lx_graph.specs.Search.{steps_left}
use Rattle.lx_graph.specs.declared.search.Mark.{Mark}
use Rattle.lx_graph.specs.declared.search.Frame.{Frame}
use Rattle.lx_graph.specs.declared.search.Search.{Search}
use Rattle.lx_graph.specs.declared.ranks.Flood.{Flood}
use Rattle.lx_graph.specs.declared.ranks.Ranks.{Ranks}

-- both have ranks, and that of a isn't higher, or strictly lower
pub record Rises (ranks : List (Option ℕ)) (strictly : Bool) (a b : ℕ) : Type 0 where
  pub low : ℕ
  pub high : ℕ
  pub below : level_of ranks a ≡ Some low
  pub above : level_of ranks b ≡ Some high
  pub rises : low ≤ high
  pub lower : strictly ≡ true → low < high

-- a reads nodes of higher ranks alone, or none of a lower rank
abbrev pub AllRise : Nodes → List (Option ℕ) → Bool → ℕ → Type 0
AllRise g ranks strictly a = (b : ℕ) → Reads g a b → Rises ranks strictly a b

-- no node reads one of a lower rank
abbrev pub AreRanks : Nodes → List (Option ℕ) → Type 0
AreRanks g ranks = (a : ℕ) → a < length g.rows → AllRise g ranks false a

-- each node has its place here, and where the ranks hold, no node reads one of a lower rank
pub record AreTested (g : Nodes) (r : Ranks) : Type 0 where
  pub size : length r.values.items ≡ length g.rows
  pub hold : OnTrue r.hold (AreRanks g r.values.items)

-- all are nodes of the graph
abbrev pub AreNodes : Nodes → List ℕ → Type 0
AreNodes g nodes = All (λ a. a < length g.rows) nodes

-- a search that passes over cycles
pub record IsLoose (g : Nodes) (marks : List Mark) (stack : List Frame) (order : List ℕ) : Type 0 where
  pub size : length marks ≡ length g.rows
  pub frames : All (λ f. f.node < length g.rows) stack
  pub nodes : AreNodes g order

abbrev pub Wanders : Nodes → Search → Type 0
Wanders g s = IsLoose g s.marks.items s.stack.items s.order

-- the search goes on, with no more steps left
pub record IsMet (g : Nodes) (s t : Search) : Type 0 where
  pub wanders : Wanders g t
  pub left : steps_left g t.marks.items t.stack.items ≤ steps_left g s.marks.items s.stack.items

-- the search of these marks and this stack went on by a step
pub record IsOn (g : Nodes) (marks : List Mark) (stack : List Frame) (t : Search) : Type 0 where
  pub wanders : Wanders g t
  pub less : steps_left g t.marks.items t.stack.items < steps_left g marks stack

-- a step, or none
abbrev pub IsPass : Nodes → Search → Search → Bool → Type 0
IsPass g s t true = IsOn g s.marks.items s.stack.items t
IsPass g s t false = Wanders g t

-- the ranks, and the nodes whose readers are to get the rank of now
pub record IsFlood (g : Nodes) (f : Flood) : Type 0 where
  pub size : length f.ranks.items ≡ length g.rows
  pub stack : AreNodes g f.stack

-- a bound on the turns that are left
abbrev pub flood_left : Flood → ℕ
flood_left f = unset f.ranks.items + length f.stack

-- the flood goes on, with no more turns left
pub record WentFlood (g : Nodes) (e f : Flood) : Type 0 where
  pub flood : IsFlood g f
  pub left : flood_left f ≤ flood_left e
