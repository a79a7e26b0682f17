-- Nodes whose children are lower than a place.
use Rattle.std.specs.Prelude.{ℕ, Bool, true, List, [], ◌∷◌, ◌&&◌, nat_lt}
use Rattle.lx_arena.specs.declared.Id.{Id}
use Rattle.lx_fhdl.specs.declared.exprs.InExprs.{InExprs}
use Rattle.lx_fhdl.specs.declared.exprs.Expr.{Expr}
use Rattle.lx_fhdl.specs.declared.exprs.Expr.TheVariants.{Const, Sig, Unary, Binary, Mux, Cat, Pick, Replicate, Slice, Fetch}
use Rattle.lx_fhdl.specs.declared.stmts.InTargets.{InTargets}
use Rattle.lx_fhdl.specs.declared.stmts.InStmts.{InStmts}
use Rattle.lx_fhdl.specs.declared.stmts.Target.{Target}
use Rattle.lx_fhdl.specs.declared.stmts.Target.TheVariants as target
use Rattle.lx_fhdl.specs.declared.stmts.Branch.{Branch}
use Rattle.lx_fhdl.specs.declared.stmts.Arm.{Arm}
use Rattle.lx_fhdl.specs.declared.stmts.Stmt.{Stmt}
use Rattle.lx_fhdl.specs.declared.stmts.Stmt.TheVariants as stmt

abbrev pub ExprId : Type 0
ExprId = Id InExprs

abbrev pub all_below : ℕ → List ExprId → Bool
all_below n [] = true
all_below n (i ∷ is) = nat_lt i.place n && all_below n is

abbrev pub expr_below : Expr → ℕ → Bool
expr_below (Const value bits signed) n = true
expr_below (Sig x) n = true
expr_below (Unary op of) n = nat_lt of.place n
expr_below (Binary op left right) n = nat_lt left.place n && nat_lt right.place n
expr_below (Mux cond then_ else_) n = nat_lt cond.place n && (nat_lt then_.place n && nat_lt else_.place n)
expr_below (Cat parts) n = all_below n parts
expr_below (Pick items index) n = all_below n items && nat_lt index.place n
expr_below (Replicate of count) n = nat_lt of.place n
expr_below (Slice of low high) n = nat_lt of.place n
expr_below (Fetch memory width at) n = nat_lt at.place n

abbrev pub TargetId : Type 0
TargetId = Id InTargets

abbrev pub StmtId : Type 0
StmtId = Id InStmts

abbrev pub all_targets_below : ℕ → List TargetId → Bool
all_targets_below n [] = true
all_targets_below n (i ∷ is) = nat_lt i.place n && all_targets_below n is

-- the parts and items of a target
abbrev pub target_below : Target → ℕ → Bool
target_below (target.Whole x) n = true
target_below (target.Part x low len) n = true
target_below (target.Cat parts) n = all_targets_below n parts
target_below (target.Pick items index) n = all_targets_below n items

abbrev pub all_stmts_below : ℕ → List StmtId → Bool
all_stmts_below n [] = true
all_stmts_below n (i ∷ is) = nat_lt i.place n && all_stmts_below n is

abbrev pub all_branches_below : ℕ → List Branch → Bool
all_branches_below n [] = true
all_branches_below n (b ∷ bs) = all_stmts_below n b.body && all_branches_below n bs

abbrev pub all_arms_below : ℕ → List Arm → Bool
all_arms_below n [] = true
all_arms_below n (a ∷ as_) = all_stmts_below n a.body && all_arms_below n as_

-- the statements inside a statement
abbrev pub stmt_below : Stmt → ℕ → Bool
stmt_below (stmt.Assign t e line) n = true
stmt_below (stmt.If branches rest line) n = all_branches_below n branches && all_stmts_below n rest
stmt_below (stmt.Case on arms rest line) n = all_arms_below n arms && all_stmts_below n rest
