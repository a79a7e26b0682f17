-- The reader's state, and which trees it still has.
use Rattle.std.specs.Prelude.{ℕ, Bool, true, List, [], ◌∷◌, ◌≡◌, ◌<◌, ◌+◌, ◌-◌, ◌*◌, ◌↔◌, ◌&&◌, length, reverse, drop, max, Option, Some, None, Result, Ok, Err, slice_get}
use Rattle.lx_grammar.specs.declared.sign.Item.{Item}
use Rattle.lx_grammar.specs.declared.grammar.Spot.{Spot}
use Rattle.lx_grammar.specs.declared.grammar.Spot.TheVariants as spot
use Rattle.lx_grammar.specs.declared.grammar.Symbol.{Symbol}
use Rattle.lx_grammar.specs.declared.grammar.Symbol.TheVariants as symbol
use Rattle.lx_grammar.specs.Derives.{Tree, Parts, end, child, joined, wrap, label, IsTreeOf}
use Rattle.lx_grammar.specs.Reads.{Reads}
use Rattle.lx_grammar.specs.Ahead.{view}
use Rattle.lx_grammar.specs.Grammar.{rules}
use Rattle.lx_grammar.specs.Pick.{pick}
use denote.Bor.{Bor}
use Rattle.lx_pytree.specs.declared.machine.Step.{Step}
use Rattle.lx_pytree.specs.declared.machine.Step.TheVariants as step
use Rattle.lx_pytree.specs.declared.machine.Open.{Open}
use Rattle.lx_pytree.specs.declared.machine.Machine.{Machine}
use Rattle.lx_pytree.specs.declared.machine.Stop.{Stop}
use Rattle.lx_pytree.specs.declared.machine.Stop.TheVariants as stop
use Rattle.lx_pytree.specs.declared.machine.Turn.{Turn}
use Rattle.lx_pytree.specs.declared.machine.Turn.TheVariants as turn
use Rattle.lx_pytree.specs.Below.{parts_below}
use Rattle.lx_pytree.specs.Trees.{plants, tree_at}
use Rattle.lx_pytree.specs.Weights.{weight}

-- the symbols up to where the innermost open node closes, and the steps behind it
unfoldable pub upto : List Step → List Symbol
upto [] = []
upto (step.Close ∷ S) = []
upto (step.Do s ∷ S) = s ∷ upto S

unfoldable pub after : List Step → List Step
after [] = []
after (step.Close ∷ S) = S
after (step.Do s ∷ S) = after S

-- these parts and those that the symbols read
pub record Gets (ps : Parts) (α : List Symbol) (l k : List Item) (rs : Parts) : Type 0 where
  pub more : Parts
  pub reads : Reads α l k more
  pub are : rs ≡ joined ps more

-- the tree that reading on gives: the innermost node has a spot and parts, the others are open around it
unfoldable pub Ends : (ℕ → Tree) → List Open → Spot → Parts → List Step → List Item → Tree → Type 0
Ends f [] r ps S l t = (rs : Parts) × (Gets ps (upto S) l [] rs × (t ≡ wrap (label r) rs))
Ends f (o ∷ os) r ps S l t = (k : List Item) × ((rs : Parts) × (Gets ps (upto S) l k rs × Ends f os o.spot (joined (plants f o.parts) (child (wrap (label r) rs) end)) (after S) k t))

-- the steps that may come before the next token is taken
unfoldable pub cost : List Step → ℕ
cost [] = 0
cost (step.Close ∷ S) = cost S
cost (step.Do (symbol.Token s) ∷ S) = 0
cost (step.Do (symbol.Node r) ∷ S) = weight r
cost (step.Do (symbol.One r) ∷ S) = weight r
cost (step.Do (symbol.Maybe r) ∷ S) = max (weight r) (cost S)
cost (step.Do (symbol.Many r) ∷ S) = max (weight r) (cost S)

unfoldable pub opens_below : ℕ → List Open → Bool
opens_below n [] = true
opens_below n (o ∷ os) = parts_below n o.parts && opens_below n os

-- a state with these steps to do
unfoldable pub EndsIn : List Item → Machine → List Step → Tree → Type 0
EndsIn items m S t = Ends (tree_at m.nodes) (reverse m.opens.items) m.current.spot (plants (tree_at m.nodes) m.current.parts) S (drop m.at items) t

unfoldable pub left : List Item → Machine → List Step → ℕ
left items m S = 65536 * (length items - m.at) + (length S + (length m.opens.items + cost S))

-- all nodes that the state knows stand in the arena
pub record IsSound (m : Machine) : Type 0 where
  pub parts : parts_below (length m.nodes) m.current.parts ≡ true
  pub opens : opens_below (length m.nodes) (reverse m.opens.items) ≡ true

-- a step changes no tree, and comes nearer to the end
pub record Moves (items : List Item) (old : Machine) (S : List Step) (new : Machine) : Type 0 where
  pub trees : (t : Tree) → EndsIn items old S t ↔ EndsIn items new (reverse new.pending.items) t
  pub fewer : left items new (reverse new.pending.items) < left items old S
  pub sound : IsSound new

pub record IsWhole (items : List Item) (old : Machine) (S : List Step) (new : Machine) (place : ℕ) : Type 0 where
  pub trees : (t : Tree) → EndsIn items old S t ↔ (t ≡ tree_at new.nodes place)
  pub inside : place < length new.nodes

abbrev pub Turns : List Item → Machine → List Step → Machine → Result Turn Stop → Type 0
Turns items old S new (Ok turn.On) = Moves items old S new
Turns items old S new (Ok (turn.Done id)) = IsWhole items old S new id.place
Turns items old S new (Err (stop.Wrong at)) = (t : Tree) → EndsIn items old S t → ⊥
Turns items old S new (Err stop.NoMemory) = Unit {0}

-- the row that is picked here, if there is one
abbrev pub IsRowAt : List Item → Machine → Spot → Option (Bor (List Symbol)) → Type 0
IsRowAt items m r (Some row) = slice_get (rules r) (pick r (view r (drop m.at items))) ≡ Some row.now
IsRowAt items m r None = slice_get (rules r) (pick r (view r (drop m.at items))) ≡ None

-- nothing is read, and a file is to be
pub record IsStart (m : Machine) : Type 0 where
  pub nodes : m.nodes ≡ []
  pub pending : m.pending.items ≡ step.Do (symbol.Node spot.File) ∷ []
  pub opens : m.opens.items ≡ []
  pub spot : m.current.spot ≡ spot.File
  pub parts : m.current.parts ≡ []
  pub at : m.at ≡ 0

-- the state's trees are those of the whole list
pub record IsReading (items : List Item) (m : Machine) : Type 0 where
  pub sound : IsSound m
  pub trees : (t : Tree) → EndsIn items m (reverse m.pending.items) t ↔ IsTreeOf items t
