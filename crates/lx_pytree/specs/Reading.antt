-- The tree of a description's tokens, or that they have none.
use Rattle.std.specs.Prelude.{ℕ, List, [], ◌≡◌, ◌≢◌, ◌<◌, length, map, Some, Result, Ok, Err, slice_get}
use Rattle.lx_text.specs.declared.faults.Fault.{Fault}
use Rattle.lx_text.specs.declared.faults.Kind.TheVariants as kind
use Rattle.lx_text.specs.declared.faults.Refusal.{Refusal}
use Rattle.lx_text.specs.declared.faults.Refusal.TheVariants as refusal
use Rattle.lx_token.specs.declared.tokens.Token.{Token}
use Rattle.lx_grammar.specs.declared.sign.Item.{Item}
use Rattle.lx_grammar.specs.Derives.{IsTreeOf}
use Rattle.lx_grammar.specs.Derives as grown
use Rattle.lx_grammar.specs.Signs.{item_of}
use Rattle.lx_pytree.specs.declared.tree.Tree.{Tree}
use Rattle.lx_pytree.specs.declared.machine.Stop.{Stop}
use Rattle.lx_pytree.specs.declared.machine.Stop.TheVariants as stop
use Rattle.lx_pytree.specs.Trees.{tree_at}

-- the tree that hangs at the root
abbrev pub tree_of : Tree → grown.Tree
tree_of tree = tree_at tree.nodes tree.root.place

-- what the grammar derives from the whole list
pub record IsRead (items : List Item) (tree : Tree) : Type 0 where
  pub derived : IsTreeOf items (tree_of tree)
  pub rooted : tree.root.place < length tree.nodes

abbrev pub Runs : List Item → Result Tree Stop → Type 0
Runs items (Ok tree) = IsRead items tree
Runs items (Err (stop.Wrong at)) = (t : grown.Tree) → IsTreeOf items t → ⊥
Runs items (Err stop.NoMemory) = Unit {0}

-- a fault of syntax that tells the number and the line of some token
pub record IsAtToken (tokens : List Token) (f : Fault) : Type 0 where
  pub number : ℕ
  pub token : Token
  pub stands : slice_get tokens number ≡ Some token
  pub kind : f.kind ≡ kind.Syntax number
  pub line : f.line ≡ token.line

pub record IsRefused (src : List ℕ) (tokens : List Token) (f : Fault) : Type 0 where
  pub none : (t : grown.Tree) → IsTreeOf (map (item_of src) tokens) t → ⊥
  pub place : tokens ≢ [] → IsAtToken tokens f

-- want of memory aside: the tree of the whole list, or a fault of syntax where it has none
abbrev pub ReadsText : List ℕ → List Token → Result Tree Refusal → Type 0
ReadsText src tokens (Ok tree) = IsRead (map (item_of src) tokens) tree
ReadsText src tokens (Err (refusal.Fault f)) = IsRefused src tokens f
ReadsText src tokens (Err refusal.NoMemory) = Unit {0}
