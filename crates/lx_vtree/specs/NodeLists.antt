-- The expressions and statements of a module, and the trees that hang at their places.
use Rattle.std.specs.Prelude.{ℕ, List}
use Rattle.lx_vtext.specs.Tree as tree
use Rattle.lx_vtree.specs.declared.nodes.VExpr.{VExpr}
use Rattle.lx_vtree.specs.declared.nodes.VStmt.{VStmt}
use Rattle.lx_vtree.specs.Trees.{tree_at}
use Rattle.lx_vtree.specs.Stmts.{stmt_at}

pub record NodeLists : Type 0 where
  pub exprs : List VExpr
  pub stmts : List VStmt

-- the expression at a place
abbrev pub expr_tree : NodeLists → ℕ → tree.VExpr
expr_tree n = tree_at n.exprs

-- the statement at a place
abbrev pub stmt_tree : NodeLists → ℕ → tree.VStmt
stmt_tree n = stmt_at (tree_at n.exprs) n.stmts
