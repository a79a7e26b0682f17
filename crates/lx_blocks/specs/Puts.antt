-- Statements that are put among nodes.
use Rattle.std.specs.Prelude.{◌≡◌, ℕ, ◌<◌, List, Option, ◌++◌, length, map, IsTrue}
use Rattle.lx_vtree.specs.declared.nodes.VTarget.{VTarget}
use Rattle.lx_vtree.specs.Below.{Ref}
use Rattle.lx_vtree.specs.NodeLists.{NodeLists, stmt_tree}
use Rattle.lx_vtree.specs.Stmts.{StmtRef, plant_target, plant_block, plant_else, are_stmts_below, is_else_below, is_target_placed}
use Rattle.lx_vtree.specs.Growth.{Grows}
use Rattle.lx_fhdl.specs.Below.{StmtId}
use Rattle.lx_vtext.specs.Tree as tree

-- a target that names no expression
pub record IsTarget (t : VTarget) (u : tree.VTarget) : Type 0 where
  pub tree : (f : ℕ → tree.VExpr) → plant_target f t ≡ u
  pub placed : (n : ℕ) → IsTrue (is_target_placed n t)

-- a word, or some of its bits, at the index that hangs at a place
pub record IsWordTarget (t : VTarget) (index : Ref) (u : tree.VExpr → tree.VTarget) : Type 0 where
  pub tree : (f : ℕ → tree.VExpr) → plant_target f t ≡ u (f index.place)
  pub placed : (n : ℕ) → index.place < n → IsTrue (is_target_placed n t)

-- the statements of a block
pub record PutBlock (old new : NodeLists) (ids : List StmtRef) (b : tree.VBlock) : Type 0 where
  pub grows : Grows old new
  pub within : IsTrue (are_stmts_below ids (length new.stmts))
  pub tree : plant_block (stmt_tree new) ids ≡ b

-- the statements behind an `else`, where there are some
pub record PutElse (old new : NodeLists) (ids : Option (List StmtRef)) (b : tree.VElse) : Type 0 where
  pub grows : Grows old new
  pub within : IsTrue (is_else_below ids (length new.stmts))
  pub tree : plant_else (stmt_tree new) ids ≡ b

-- the trees of statements at these places
abbrev pub trees_of : (ℕ → tree.VStmt) → List StmtRef → List tree.VStmt
trees_of g ids = map (λ (i : StmtRef). g i.place) ids

abbrev pub texts_of : (ℕ → tree.VStmt) → List StmtId → List tree.VStmt
texts_of g ids = map (λ (i : StmtId). g i.place) ids

-- the list of a block's statements grows by statements with these trees
pub record PutStmts (old new : NodeLists) (before after : List StmtRef) (ts : List tree.VStmt) : Type 0 where
  pub grows : Grows old new
  pub within : IsTrue (are_stmts_below after (length new.stmts))
  pub trees : trees_of (stmt_tree new) after ≡ trees_of (stmt_tree old) before ++ ts
