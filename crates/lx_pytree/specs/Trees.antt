-- The tree that hangs at a place of the arena.
use Rattle.std.specs.Prelude.{ℕ, Bool, List, [], ◌∷◌, ◌≡◌, Option, Some, None, Result, Ok, Err}
use Rattle.lx_text.specs.declared.lists.NoMemory.{NoMemory}
use Rattle.lx_arena.specs.declared.Id.{Id}
use Rattle.lx_arena.specs.Folds.{fold_at, Hangs}
use Rattle.lx_grammar.specs.declared.grammar.Rule.{Rule}
use Rattle.lx_grammar.specs.Derives.{Tree, Grown, NoTree, Parts, end, token, child, wrap}
use Rattle.lx_pytree.specs.declared.tree.PyNode.{PyNode}
use Rattle.lx_pytree.specs.declared.tree.PyNodes.{PyNodes}
use Rattle.lx_pytree.specs.declared.tree.PyPart.{PyPart}
use Rattle.lx_pytree.specs.declared.tree.PyPart.TheVariants as part
use Rattle.lx_pytree.specs.Below.{parts_below}

-- parts as they hang in a tree, where f says which tree hangs at a place
unfoldable pub plants : (ℕ → Tree) → List PyPart → Parts
plants f [] = end
plants f (part.Token x ∷ ps) = token x (plants f ps)
plants f (part.Node id ∷ ps) = child (f id.place) (plants f ps)

-- the tree of a node
abbrev pub node_tree : (ℕ → Tree) → PyNode → Tree
node_tree f node = Grown node.rule (plants f node.parts)

-- the tree at a place, whose children are lower
unfoldable pub tree_at : List PyNode → ℕ → Tree
tree_at nodes place = fold_at NoTree node_tree nodes place

abbrev pub below_node : PyNode → ℕ → Bool
below_node node n = parts_below n node.parts

-- the only part, where it is a node
abbrev pub IsSole : List PyPart → Option (Id PyNodes) → Type 0
IsSole ps (Some id) = ps ≡ part.Node id ∷ []
IsSole ps None = (f : ℕ → Tree) (r : Rule) → wrap r (plants f ps) ≡ Grown r (plants f ps)

-- the node that hangs a rule's parts, and all trees that hung before
abbrev pub IsHung : Rule → List PyPart → List PyNode → List PyNode → ℕ → Type 0
IsHung r ps old new place = Hangs tree_at old new place (wrap r (plants (tree_at old) ps))

abbrev pub IsClosed : Rule → List PyPart → List PyNode → List PyNode → Result (Id PyNodes) NoMemory → Type 0
IsClosed r ps old new (Ok id) = IsHung r ps old new id.place
IsClosed r ps old new (Err e) = Unit {0}
