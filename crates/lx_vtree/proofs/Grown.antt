-- Expressions and statements that grow: the trees that hung there stay.
use Rattle.std.proofs.Common.{ℕ, List, [], ◌∷◌, ◌++◌, length, IsTrue, slice_get, refl, ap, ◌∙◌, arith}
use Rattle.lx_arena.specs.Lower.{EachLower}
use Rattle.lx_vtext.specs.Tree as tree
use Rattle.lx_vtree.specs.declared.nodes.VExpr.{VExpr}
use Rattle.lx_vtree.specs.declared.nodes.VStmt.{VStmt}
use Rattle.lx_vtree.specs.Below.{is_below}
use Rattle.lx_vtree.specs.Stmts.{is_stmt_below, StmtsPlaced}
use Rattle.lx_vtree.specs.NodeLists.{NodeLists}
use Rattle.lx_vtree.specs.Growth.{GrowsExprs, Grows, PutExpr, AddedExpr, AddedStmt}
use Rattle.lx_vtree.specs.Trees.{tree_at}
use Rattle.lx_vtree.proofs.Exprs.{added}
use Rattle.lx_vtree.proofs.Stmts.{added_stmt, stmts_stay}

-- ---- expressions

pub exprs_same : (n : NodeLists) → GrowsExprs n n
exprs_same n = record { longer = omega arith; nodes = λ k l. refl; trees = λ k l. refl; stmts = refl; stays = λ k. refl }

pub exprs_then : (n0 n1 n2 : NodeLists) → GrowsExprs n0 n1 → GrowsExprs n1 n2 → GrowsExprs n0 n2
exprs_then n0 n1 n2 g h = record {
  longer = omega (arith, g.longer, h.longer);
  nodes = λ k l. h.nodes k (omega (arith, g.longer)) ∙ g.nodes k l;
  trees = λ k l. h.trees k (omega (arith, g.longer)) ∙ g.trees k l;
  stmts = h.stmts ∙ g.stmts;
  stays = λ k. h.stays k ∙ g.stays k;
}

-- an expression that was put stays
pub expr_kept : (n0 n1 n2 : NodeLists) (i : ℕ) (t : tree.VExpr) → PutExpr n0 n1 i t → GrowsExprs n1 n2 → PutExpr n0 n2 i t
expr_kept n0 n1 n2 i t p g = record { grows = exprs_then n0 n1 n2 p.grows g; within = omega (arith, p.within, g.longer); is = g.trees i p.within ∙ p.is }

-- an expression that is pushed
pub expr_added : (exprs : List VExpr) (stmts : List VStmt) (e : VExpr) → EachLower is_below (exprs ++ e ∷ []) → EachLower is_stmt_below stmts → StmtsPlaced (length exprs) stmts → IsTrue (is_below e (length exprs))
    → AddedExpr (record { exprs = exprs; stmts = stmts }) (record { exprs = exprs ++ e ∷ []; stmts = stmts }) (length exprs) e
expr_added exprs stmts e low stmts_low placed below =
    let a = added exprs e low below in
    record {
      grows = record {
        longer = a.grows.longer;
        nodes = a.grows.nodes;
        trees = a.grows.trees;
        stmts = refl;
        stays = λ k. stmts_stay exprs (exprs ++ e ∷ []) stmts k stmts_low placed a.grows;
      };
      within = a.within;
      is = a.is;
    }

-- ---- statements

-- more expressions
pub by_exprs : (old new : NodeLists) → GrowsExprs old new → Grows old new
by_exprs old new g = record {
  exprs = g.longer;
  nodes = g.nodes;
  trees = g.trees;
  longer = omega (arith, ap (λ (ss : List VStmt). length ss) g.stmts);
  stmts = λ k l. ap (λ (ss : List VStmt). slice_get ss k) g.stmts;
  stays = λ k l. g.stays k;
}

pub grows_same : (n : NodeLists) → Grows n n
grows_same n = by_exprs n n (exprs_same n)

pub grows_then : (n0 n1 n2 : NodeLists) → Grows n0 n1 → Grows n1 n2 → Grows n0 n2
grows_then n0 n1 n2 g h = record {
  exprs = omega (arith, g.exprs, h.exprs);
  nodes = λ k l. h.nodes k (omega (arith, g.exprs)) ∙ g.nodes k l;
  trees = λ k l. h.trees k (omega (arith, g.exprs)) ∙ g.trees k l;
  longer = omega (arith, g.longer, h.longer);
  stmts = λ k l. h.stmts k (omega (arith, g.longer)) ∙ g.stmts k l;
  stays = λ k l. h.stays k (omega (arith, g.longer)) ∙ g.stays k l;
}

-- a statement that is pushed
pub stmt_added : (exprs : List VExpr) (stmts : List VStmt) (s : VStmt) → EachLower is_stmt_below (stmts ++ s ∷ []) → IsTrue (is_stmt_below s (length stmts))
    → AddedStmt (record { exprs = exprs; stmts = stmts }) (record { exprs = exprs; stmts = stmts ++ s ∷ [] }) (length stmts) s
stmt_added exprs stmts s low below =
    let a = added_stmt (tree_at exprs) stmts s low below in
    record {
      grows = record {
        exprs = omega arith;
        nodes = λ k l. refl;
        trees = λ k l. refl;
        longer = a.grows.longer;
        stmts = a.grows.nodes;
        stays = a.grows.trees;
      };
      within = a.within;
      is = a.is;
    }
