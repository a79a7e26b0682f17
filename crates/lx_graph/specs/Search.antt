-- What a search depth first keeps.
use Rattle.std.specs.Prelude.{◌≡◌, ◌≢◌, ℕ, ◌+◌, ◌-◌, ◌<◌, ◌≤◌, List, [], ◌∷◌, ◌++◌, map, length, slice_index_or}
use Rattle.std.specs.List.{All, Contains, sum_by}
use Rattle.lx_graph.specs.Graph.{Nodes, row, Reads}
use Rattle.lx_graph.specs.Order.{AreInTurn, IsOrder}
use Rattle.lx_graph.specs.Cycle.{OnCycle}
use Rattle.lx_graph.specs.declared.search.Mark.{Mark}
use Rattle.lx_graph.specs.declared.search.Mark.TheVariants.{Unseen, Open, Placed}
use Rattle.lx_graph.specs.declared.search.Frame.{Frame}
use Rattle.lx_graph.specs.declared.search.Search.{Search}
use Rattle.lx_graph.specs.declared.search.Turn.{Turn}
use Rattle.lx_graph.specs.declared.search.Turn.TheVariants.{Done, On, Loop}
use Rattle.lx_graph.specs.declared.search.Searched.{Searched}
use Rattle.lx_graph.specs.declared.search.Searched.TheVariants.{Order, Cycle}

abbrev pub mark_of : List Mark → ℕ → Mark
mark_of marks a = slice_index_or marks a Unseen

-- the nodes on the stack, from the bottom
abbrev pub nodes_of : List Frame → List ℕ
nodes_of stack = map (λ f. f.node) stack

-- a reads the first of these
abbrev pub ReadsFirst : Nodes → ℕ → List ℕ → Type 0
ReadsFirst g a [] = Unit {0}
ReadsFirst g a (b ∷ others) = Reads g a b

-- each reads the next
abbrev pub IsPath : Nodes → List ℕ → Type 0
IsPath g [] = Unit {0}
IsPath g (a ∷ others) = ReadsFirst g a others × IsPath g others

-- none stands twice
abbrev pub AreApart : List ℕ → Type 0
AreApart [] = Unit {0}
AreApart (a ∷ others) = (Contains others a → ⊥) × AreApart others

-- the reads of the frame's node before the next one have their place in the order
pub record IsFrame (g : Nodes) (order : List ℕ) (f : Frame) : Type 0 where
  pub node : f.node < length g.rows
  pub next : f.next ≤ length (row g f.node)
  pub done : (k : ℕ) → k < f.next → Contains order (slice_index_or (row g f.node) k 0)

pub record IsSearch (g : Nodes) (marks : List Mark) (stack : List Frame) (order : List ℕ) : Type 0 where
  pub size : length marks ≡ length g.rows
  pub placed : (a : ℕ) → mark_of marks a ≡ Placed → Contains order a
  pub in_order : (a : ℕ) → Contains order a → mark_of marks a ≡ Placed
  pub opened : (a : ℕ) → mark_of marks a ≡ Open → Contains (nodes_of stack) a
  pub stacked : (a : ℕ) → Contains (nodes_of stack) a → mark_of marks a ≡ Open
  pub apart : AreApart (nodes_of stack)
  pub path : IsPath g (nodes_of stack)
  pub frames : All (IsFrame g order) stack
  pub turns : AreInTurn g [] order

abbrev pub Searches : Nodes → Search → Type 0
Searches g s = IsSearch g s.marks.items s.stack.items s.order

-- what may still come of a node with this mark and row
abbrev pub weight : Mark → List ℕ → ℕ
weight Unseen reads = length reads + 2
weight Open reads = 0
weight Placed reads = 0

abbrev pub unseen : List Mark → List (List ℕ) → ℕ
unseen [] rows = 0
unseen (m ∷ marks) [] = 0
unseen (m ∷ marks) (r ∷ rows) = weight m r + unseen marks rows

-- the looks at reads that are left of a frame, and its end
abbrev pub left : Nodes → Frame → ℕ
left g f = (length (row g f.node) - f.next) + 1

-- a bound on the steps that are left
abbrev pub steps_left : Nodes → List Mark → List Frame → ℕ
steps_left g marks stack = unseen marks g.rows + sum_by (left g) stack

-- what was seen stays so
abbrev pub KeepSeen : List Mark → List Mark → Type 0
KeepSeen before after = (a : ℕ) → mark_of before a ≢ Unseen → mark_of after a ≢ Unseen

-- the search of these marks and this stack has come to its end
pub record IsVisited (g : Nodes) (marks : List Mark) (t : Search) : Type 0 where
  pub searches : Searches g t
  pub done : t.stack.items ≡ []
  pub seen : KeepSeen marks t.marks.items

-- the search of these marks and this stack went on by a step
pub record WentOn (g : Nodes) (marks : List Mark) (stack : List Frame) (t : Search) : Type 0 where
  pub searches : Searches g t
  pub less : steps_left g t.marks.items t.stack.items < steps_left g marks stack
  pub seen : KeepSeen marks t.marks.items

-- what a step of a search from these marks and this stack found
abbrev pub IsTurn : Nodes → List Mark → List Frame → Search → Turn → Type 0
IsTurn g marks stack t Done = IsVisited g marks t
IsTurn g marks stack t On = WentOn g marks stack t
IsTurn g marks stack t (Loop a) = OnCycle (Reads g) a

-- the frame was taken off the stack to look at the next of its reads
pub record IsLooking (g : Nodes) (s : Search) (frame : Frame) (all : List ℕ) : Type 0 where
  pub searches : IsSearch g s.marks.items (s.stack.items ++ frame ∷ []) s.order
  pub reads : all ≡ row g frame.node
  pub next : frame.next < length all

-- an order of all nodes, or a node on a cycle
abbrev pub IsSearched : Nodes → Searched → Type 0
IsSearched g (Order nodes) = IsOrder g nodes
IsSearched g (Cycle a) = OnCycle (Reads g) a
