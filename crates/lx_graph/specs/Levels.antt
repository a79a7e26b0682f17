-- How many links lead from nodes to a plain one, the target.
use Rattle.std.specs.Prelude.{◌≡◌, ℕ, suc, ◌+◌, ◌*◌, ◌<◌, ◌≤◌, ◌⊎◌, nat_lt, nat_eq, min, Bool, false, MatchOption, if◌then◌else◌, List, [], ◌∷◌, Option, Some, None, length, take, slice_index_or}
use Rattle.std.specs.List.{Contains}
use Rattle.lx_graph.specs.Graph.{Nodes, row, Reads}
use Rattle.lx_graph.specs.Cycle.{Walk, IsLink}
use Rattle.lx_graph.specs.Through.{Through, Links}
use Rattle.lx_graph.specs.declared.levels.Wave.{Wave}
use Rattle.lx_graph.specs.declared.levels.Levels.{Levels}

-- the plain node b is a itself, or read through the inner node a
abbrev pub StandsFor : Nodes → ℕ → ℕ → Type 0
StandsFor g a b = (b < g.plain) × ((a ≡ b) ⊎ ((g.plain ≤ a) × Through g a b))

-- a link begins at a plain node
abbrev pub cost : Nodes → ℕ → ℕ
cost g a = if nat_lt a g.plain then 1 else 0

abbrev pub level_of : List (Option ℕ) → ℕ → Option ℕ
level_of levels a = slice_index_or levels a None

-- the node has a level, of at most so many
abbrev pub IsAtMost : List (Option ℕ) → ℕ → ℕ → Type 0
IsAtMost levels a most = (d : ℕ) × (level_of levels a ≡ Some d) × (d ≤ most)

-- from a node that a stands for so many links lead to the target
abbrev pub Away : Nodes → ℕ → ℕ → ℕ → Type 0
Away g target a d = (b : ℕ) × StandsFor g a b × Walk (Links g) b target d

-- those that read r are one link further, or no further where they are inner nodes
abbrev pub IsClosed : Nodes → List (Option ℕ) → ℕ → ℕ → Type 0
IsClosed g levels r d = (a : ℕ) → Reads g a r → IsAtMost levels a (d + cost g a)

-- the levels are the least numbers of links that lead to the target; who has none can't come there
pub record AreLevels (g : Nodes) (target : ℕ) (levels : List (Option ℕ)) : Type 0 where
  pub size : length levels ≡ length g.rows
  pub start : level_of levels target ≡ Some 0
  pub away : (a d : ℕ) → level_of levels a ≡ Some d → Away g target a d
  pub closed : (r d : ℕ) → level_of levels r ≡ Some d → IsClosed g levels r d

abbrev pub unset : List (Option ℕ) → ℕ
unset [] = 0
unset (None ∷ levels) = suc (unset levels)
unset (Some d ∷ levels) = unset levels

-- levels while they spread from the target: those of this level to be looked at now, those of the next one, and
-- busy ones
pub record IsWave (g : Nodes) (target : ℕ) (busy : List ℕ) (levels : List (Option ℕ)) (now next : List ℕ) (level : ℕ) : Type 0 where
  pub size : length levels ≡ length g.rows
  pub start : level_of levels target ≡ Some 0
  pub away : (a d : ℕ) → level_of levels a ≡ Some d → Away g target a d
  pub near : (a d : ℕ) → level_of levels a ≡ Some d → d ≤ level + cost g a
  pub at_now : (a : ℕ) → Contains now a → level_of levels a ≡ Some level
  pub at_next : (a : ℕ) → Contains next a → level_of levels a ≡ Some (level + 1)
  pub closed : (r d : ℕ) → level_of levels r ≡ Some d → (Contains busy r → ⊥) → (Contains now r → ⊥) → (Contains next r → ⊥) → IsClosed g levels r d
  pub room : level + length next + unset levels < length levels

abbrev pub Spreads : Nodes → List ℕ → Wave → Type 0
Spreads g busy w = IsWave g w.target busy w.levels.items w.now w.next w.level

-- a bound on the turns that are left
abbrev pub turns_left : Wave → ℕ
turns_left w = 3 * unset w.levels.items + 2 * length w.next + length w.now

-- levels stay, and the turns that are left don't grow
pub record KeepsWave (v w : Wave) : Type 0 where
  pub target : w.target ≡ v.target
  pub levels : (a d : ℕ) → level_of v.levels.items a ≡ Some d → level_of w.levels.items a ≡ Some d
  pub level : w.level ≡ v.level
  pub turns : turns_left w ≤ turns_left v

-- the node, which reads a busy one, has its level
pub record IsReached (g : Nodes) (read node : ℕ) (v w : Wave) : Type 0 where
  pub spreads : Spreads g (read ∷ []) w
  pub keeps : KeepsWave v w
  pub level : IsAtMost w.levels.items node (v.level + cost g node)

-- no node is busy any more
pub record IsSpread (g : Nodes) (v w : Wave) : Type 0 where
  pub spreads : Spreads g [] w
  pub keeps : KeepsWave v w

-- the next level is looked at
pub record IsRisen (g : Nodes) (v w : Wave) : Type 0 where
  pub spreads : Spreads g [] w
  pub target : w.target ≡ v.target
  pub turns : turns_left w < turns_left v

-- some of these nodes has this number, and none a lower one
pub record IsLowest (number : ℕ → Option ℕ) (nodes : List ℕ) (found : ℕ) : Type 0 where
  pub node : ℕ
  pub among : Contains nodes node
  pub at : number node ≡ Some found
  pub least : (r n : ℕ) → Contains nodes r → number r ≡ Some n → found ≤ n

-- none of these nodes has a number
abbrev pub HaveNone : (ℕ → Option ℕ) → List ℕ → Type 0
HaveNone number nodes = (r n : ℕ) → Contains nodes r → number r ≡ Some n → ⊥

-- the lowest number that one of these nodes has
abbrev pub IsFound : (ℕ → Option ℕ) → List ℕ → Option ℕ → Type 0
IsFound number nodes found = MatchOption found (HaveNone number nodes) (IsLowest number nodes)

-- the lower of two numbers that may be missing
abbrev pub lower : Option ℕ → Option ℕ → Option ℕ
lower None n = n
lower (Some m) None = Some m
lower (Some m) (Some n) = Some (min m n)

-- of these nodes some has this level, and none a lower one
abbrev pub IsLeast : List (Option ℕ) → List ℕ → ℕ → Type 0
IsLeast levels nodes level = IsLowest (level_of levels) nodes level

-- f is the lowest plain node of its level for which the node stands
pub record IsFirst (g : Nodes) (levels : List (Option ℕ)) (a f : ℕ) : Type 0 where
  pub stands : StandsFor g a f
  pub same : level_of levels f ≡ level_of levels a
  pub lowest : (b : ℕ) → StandsFor g a b → level_of levels b ≡ level_of levels a → f ≤ b

-- of the first so many nodes, those with a level have their first plain nodes here
abbrev pub AreFirsts : Nodes → List (Option ℕ) → List ℕ → ℕ → Type 0
AreFirsts g levels firsts n = (a d : ℕ) → a < n → level_of levels a ≡ Some d → IsFirst g levels a (slice_index_or firsts a 0)

abbrev pub is_level : ℕ → Option ℕ → Bool
is_level level None = false
is_level level (Some d) = nat_eq d level

-- the first plain node of a node of this level
abbrev pub first_at : List (Option ℕ) → List ℕ → ℕ → ℕ → Option ℕ
first_at levels firsts level a = if is_level level (level_of levels a) then Some (slice_index_or firsts a 0) else None

-- the rows turned round: of each node those that read it
pub record AreReaders (g : Nodes) (readers : List (List ℕ)) : Type 0 where
  pub size : length readers ≡ length g.rows
  pub from : (r a : ℕ) → Contains (slice_index_or readers r []) a → Reads g a r
  pub all : (r a : ℕ) → Reads g a r → Contains (slice_index_or readers r []) a

-- the rows below a are turned round, and of the row of a the first so many
pub record ArePartly (g : Nodes) (a count : ℕ) (readers : List (List ℕ)) : Type 0 where
  pub size : length readers ≡ length g.rows
  pub from : (r b : ℕ) → Contains (slice_index_or readers r []) b → Reads g b r
  pub before : (r b : ℕ) → b < a → Reads g b r → Contains (slice_index_or readers r []) b
  pub here : (r : ℕ) → Contains (take count (row g a)) r → Contains (slice_index_or readers r []) a

abbrev pub AreLevelsOf : Nodes → Levels → Type 0
AreLevelsOf g levels = (levels.target < g.plain) × AreLevels g levels.target levels.values.items

-- what stands here of the first so many nodes are their first plain nodes
pub record HaveFirsts (g : Nodes) (levels : Levels) (firsts : List ℕ) (n : ℕ) : Type 0 where
  pub size : length firsts ≡ n
  pub are : AreFirsts g levels.values.items firsts n

-- what stands here of all nodes are their first plain nodes
pub record AreAllFirsts (g : Nodes) (levels : Levels) (firsts : List ℕ) : Type 0 where
  pub size : length firsts ≡ length g.rows
  pub are : AreFirsts g levels.values.items firsts (length g.rows)

-- the link to the lowest plain node of this level
pub record IsNext (g : Nodes) (levels : Levels) (a level next : ℕ) : Type 0 where
  pub link : IsLink (Links g) levels.target a next level
  pub at : level_of levels.values.items next ≡ Some level
