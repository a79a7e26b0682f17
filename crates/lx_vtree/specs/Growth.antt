-- Expressions and statements that grow, as those who build a module see them.
use Rattle.std.specs.Prelude.{◌≡◌, ℕ, ◌<◌, ◌≤◌, length, slice_get}
use Rattle.lx_vtext.specs.Tree as tree
use Rattle.lx_vtree.specs.declared.nodes.VExpr.{VExpr}
use Rattle.lx_vtree.specs.declared.nodes.VStmt.{VStmt}
use Rattle.lx_vtree.specs.NodeLists.{NodeLists, expr_tree, stmt_tree}
use Rattle.lx_vtree.specs.Trees.{plant}
use Rattle.lx_vtree.specs.Stmts.{plant_stmt}

-- Expressions more: those of old stand in new too, with their trees, and the statements stay, with theirs.
pub record GrowsExprs (old new : NodeLists) : Type 0 where
  pub longer : length old.exprs ≤ length new.exprs
  pub nodes : (k : ℕ) → k < length old.exprs → slice_get new.exprs k ≡ slice_get old.exprs k
  pub trees : (k : ℕ) → k < length old.exprs → expr_tree new k ≡ expr_tree old k
  pub stmts : new.stmts ≡ old.stmts
  pub stays : (k : ℕ) → stmt_tree new k ≡ stmt_tree old k

-- Expressions and statements more: those of old stand in new too, with their trees.
pub record Grows (old new : NodeLists) : Type 0 where
  pub exprs : length old.exprs ≤ length new.exprs
  pub nodes : (k : ℕ) → k < length old.exprs → slice_get new.exprs k ≡ slice_get old.exprs k
  pub trees : (k : ℕ) → k < length old.exprs → expr_tree new k ≡ expr_tree old k
  pub longer : length old.stmts ≤ length new.stmts
  pub stmts : (k : ℕ) → k < length old.stmts → slice_get new.stmts k ≡ slice_get old.stmts k
  pub stays : (k : ℕ) → k < length old.stmts → stmt_tree new k ≡ stmt_tree old k

-- an expression more, with the tree that hangs at its place
pub record PutExpr (old new : NodeLists) (place : ℕ) (t : tree.VExpr) : Type 0 where
  pub grows : GrowsExprs old new
  pub within : place < length new.exprs
  pub is : expr_tree new place ≡ t

-- a statement more, with the tree that hangs at its place
pub record PutStmt (old new : NodeLists) (place : ℕ) (t : tree.VStmt) : Type 0 where
  pub grows : Grows old new
  pub within : place < length new.stmts
  pub is : stmt_tree new place ≡ t

-- a node more, whose tree is made of the old trees
abbrev pub AddedExpr : NodeLists → NodeLists → ℕ → VExpr → Type 0
AddedExpr old new place e = PutExpr old new place (plant (expr_tree old) e)

abbrev pub AddedStmt : NodeLists → NodeLists → ℕ → VStmt → Type 0
AddedStmt old new place s = PutStmt old new place (plant_stmt (expr_tree old) (stmt_tree old) s)
