-- The tree of an expression that hangs at a place of an arena.
use Rattle.std.specs.Prelude.{ℕ, List, [], ◌∷◌}
use Rattle.lx_arena.specs.Folds.{fold_at}
use Rattle.lx_vtext.specs.Tree as tree
use Rattle.lx_vtree.specs.declared.nodes.VExpr.{VExpr}
use Rattle.lx_vtree.specs.declared.nodes.VExpr.TheVariants as node
use Rattle.lx_vtree.specs.Below.{Ref}

abbrev pub plants : (ℕ → tree.VExpr) → List Ref → tree.VExprs
plants f [] = tree.NoMore
plants f (id ∷ ids) = tree.More (f id.place) (plants f ids)

-- the tree of a node whose children's trees are known
abbrev pub plant : (ℕ → tree.VExpr) → VExpr → tree.VExpr
plant f (node.Net name) = tree.Net name
plant f (node.Literal l) = tree.Literal l.bits l.signed l.value
plant f (node.PartSelect name hi lo) = tree.PartSelect name hi lo
plant f (node.Word name index) = tree.Word name (f index.place)
plant f (node.Unary op of) = tree.Unary op (f of.place)
plant f (node.Binary left op right) = tree.Binary (f left.place) op (f right.place)
plant f (node.Conditional c so other) = tree.Conditional (f c.place) (f so.place) (f other.place)
plant f (node.Concatenation first more) = tree.Concatenation (f first.place) (plants f more)
plant f (node.Replication count of) = tree.Replication count (f of.place)
plant f (node.ToSigned of) = tree.ToSigned (f of.place)
plant f (node.ToUnsigned of) = tree.ToUnsigned (f of.place)

-- where there is no node, a tree that has no text
abbrev pub nowhere : tree.VExpr
nowhere = tree.Net []

-- the tree at a place
abbrev pub tree_at : List VExpr → ℕ → tree.VExpr
tree_at = fold_at nowhere plant
