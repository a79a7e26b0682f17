-- The tree of a statement that hangs at a place of an arena.
use Rattle.std.specs.Prelude.{ℕ, Bool, true, ◌&&◌, List, [], ◌∷◌, Option, Some, None, slice_get, nat_lt, IfSome, IsTrue}
use Rattle.lx_arena.specs.declared.Id.{Id}
use Rattle.lx_arena.specs.Folds.{fold_at}
use Rattle.lx_vtext.specs.Tree as tree
use Rattle.lx_vtree.specs.declared.nodes.InStmts.{InStmts}
use Rattle.lx_vtree.specs.declared.nodes.VStmt.{VStmt}
use Rattle.lx_vtree.specs.declared.nodes.VStmt.TheVariants as stmt
use Rattle.lx_vtree.specs.declared.nodes.VTarget.{VTarget}
use Rattle.lx_vtree.specs.declared.nodes.VTarget.TheVariants as target
use Rattle.lx_vtree.specs.Trees.{nowhere}

abbrev pub StmtRef : Type 0
StmtRef = Id InStmts

abbrev pub plant_target : (ℕ → tree.VExpr) → VTarget → tree.VTarget
plant_target f (target.Whole name) = tree.Whole name
plant_target f (target.Part name hi lo) = tree.Part name hi lo
plant_target f (target.WholeWord name index) = tree.WholeWord name (f index.place)
plant_target f (target.PartWord name index hi lo) = tree.PartWord name (f index.place) hi lo

abbrev pub plant_block : (ℕ → tree.VStmt) → List StmtRef → tree.VBlock
plant_block g [] = tree.EndBlock
plant_block g (id ∷ ids) = tree.InBlock (g id.place) (plant_block g ids)

abbrev pub plant_else : (ℕ → tree.VStmt) → Option (List StmtRef) → tree.VElse
plant_else g None = tree.NoElse
plant_else g (Some ids) = tree.Else (plant_block g ids)

-- f gives the trees of expressions, and g those of the statements inside
abbrev pub plant_stmt : (ℕ → tree.VExpr) → (ℕ → tree.VStmt) → VStmt → tree.VStmt
plant_stmt f g (stmt.Assign t blocking e) = tree.Assign (plant_target f t) blocking (f e.place)
plant_stmt f g (stmt.When c so other) = tree.When (f c.place) (plant_block g so) (plant_else g other)

-- where there is no node, a tree that has no text
abbrev pub no_stmt : tree.VStmt
no_stmt = tree.Assign (tree.Whole []) true nowhere

-- the tree at a place
abbrev pub stmt_at : (ℕ → tree.VExpr) → List VStmt → ℕ → tree.VStmt
stmt_at f = fold_at no_stmt (plant_stmt f)

-- ---- places

abbrev pub are_stmts_below : List StmtRef → ℕ → Bool
are_stmts_below [] n = true
are_stmts_below (id ∷ ids) n = nat_lt id.place n && are_stmts_below ids n

abbrev pub is_else_below : Option (List StmtRef) → ℕ → Bool
is_else_below None n = true
is_else_below (Some ids) n = are_stmts_below ids n

-- all statements inside stand at places lower than n
abbrev pub is_stmt_below : VStmt → ℕ → Bool
is_stmt_below (stmt.Assign t blocking e) n = true
is_stmt_below (stmt.When c so other) n = are_stmts_below so n && is_else_below other n

abbrev pub is_target_placed : ℕ → VTarget → Bool
is_target_placed n (target.Whole name) = true
is_target_placed n (target.Part name hi lo) = true
is_target_placed n (target.WholeWord name index) = nat_lt index.place n
is_target_placed n (target.PartWord name index hi lo) = nat_lt index.place n

-- all its expressions stand at places lower than n
abbrev pub is_stmt_placed : ℕ → VStmt → Bool
is_stmt_placed n (stmt.Assign t blocking e) = is_target_placed n t && nat_lt e.place n
is_stmt_placed n (stmt.When c so other) = nat_lt c.place n

-- all expressions of the statements stand at places lower than n
pub record StmtsPlaced (n : ℕ) (nodes : List VStmt) : Type 0 where
  pub placed : (k : ℕ) → IfSome (slice_get nodes k) (λ s. IsTrue (is_stmt_placed n s))
