-- The trees of targets and statements.
use Rattle.std.proofs.Common.{◌≡◌, ℕ, List, Some, sym, ◌∙◌, ap}
use Rattle.std.specs.Prelude.{slice_get}
use Rattle.std.proofs.lemmas.Bool.{true≢false}
use Rattle.lx_fhdl.specs.Below.{ExprId, TargetId, StmtId}
use Rattle.lx_fhdl.specs.Trees.{term_at}
use Rattle.lx_fhdl.specs.Stmts.{node_target, target_at, node_stmt}
use Rattle.lx_fhdl.specs.Designs.{target, stmt}
use Rattle.lx_fhdl.specs.Keeping.{Keeps}
use Rattle.lx_fhdl.specs.Lowered.{IsPlain, is_plain_target, is_for}
use Rattle.lx_fhdl.specs.declared.stmts.Target.{Target}
use Rattle.lx_fhdl.specs.declared.stmts.Arm.{Arm}
use Rattle.lx_fhdl.specs.declared.stmts.Stmt.{Stmt}
use Rattle.lx_fhdl.specs.declared.design.Design.{Design}
use Rattle.lx_sheet.specs.Drives.{IsPlainTarget}
use Rattle.lx_fhdl.proofs.StmtTrees.{stmt_at-is, target_at-is}
use Rattle.lx_fhdl.specs.declared.stmts.Stmt.TheVariants as statement

-- the tree of a target, from those of its parts
pub target_is : (d : Design) (k : ℕ) (x : Target) → Keeps d → slice_get d.targets k ≡ Some x → target d k ≡ node_target (term_at d.exprs) (target d) x
target_is d k x keeps e = target_at-is (term_at d.exprs) d.targets keeps.arenas.targets_lower k x e

-- the tree of a statement
pub stmt_is : (d : Design) (k : ℕ) (x : Stmt) → Keeps d → slice_get d.stmts k ≡ Some x → stmt d k ≡ node_stmt (term_at d.exprs) (target d) (stmt d) x
stmt_is d k x keeps e = stmt_at-is (term_at d.exprs) (target_at (term_at d.exprs) d.targets) d.stmts keeps.arenas.stmts_lower k x e

pub no_case : (d : Design) (k : ℕ) (on : ExprId) (arms : List Arm) (rest : List StmtId) (line : ℕ) → Keeps d → slice_get d.stmts k ≡ Some (statement.Case on arms rest line) → IsPlain (stmt d k) → ⊥
no_case d k on arms rest line keeps e p = true≢false (sym p.alone ∙ ap (is_for p.signal) (stmt_is d k (statement.Case on arms rest line) keeps e))

-- an assignment is for the signal of its target
pub assign_for : (d : Design) (k x : ℕ) (t : TargetId) (value : ExprId) (line : ℕ) → Keeps d → slice_get d.stmts k ≡ Some (statement.Assign t value line) → is_for x (stmt d k) ≡ is_plain_target x (target d t.place)
assign_for d k x t value line keeps e = ap (is_for x) (stmt_is d k (statement.Assign t value line) keeps e)

pub plain_assign : (d : Design) (k : ℕ) (t : TargetId) (value : ExprId) (line : ℕ) → Keeps d → slice_get d.stmts k ≡ Some (statement.Assign t value line) → IsPlain (stmt d k) → IsPlainTarget (target d t.place)
plain_assign d k t value line keeps e p = record { signal = p.signal; alone = sym (assign_for d k p.signal t value line keeps e) ∙ p.alone }
