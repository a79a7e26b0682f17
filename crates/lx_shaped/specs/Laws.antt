-- What making does to a draft: what was made stands at its place, and what stood stays.
use Rattle.std.specs.Prelude.{◌≡◌, ℕ}
use Rattle.lx_fhdl.specs.Below.{ExprId, TargetId, StmtId}
use Rattle.lx_fhdl.specs.Drafts.{DraftKeeps, IsDraft, ExprPut, MemoryPut, SignalPut, TargetPut, StmtPut, Stays}
use Rattle.lx_fhdl.specs.declared.design.Design.{Design}
use Rattle.lx_fhdl.specs.declared.design.Memory.{Memory}
use Rattle.lx_fhdl.specs.declared.design.Signal.{Signal}
use Rattle.lx_fhdl.specs.declared.exprs.Expr.{Expr}
use Rattle.lx_fhdl.specs.declared.exprs.SigId.{SigId}
use Rattle.lx_fhdl.specs.declared.stmts.Stmt.{Stmt}
use Rattle.lx_fhdl.specs.declared.stmts.Target.{Target}
use Rattle.lx_shaped.specs.Making.{make_expr, make_memory, make_signal, make_stmt, make_target}
use Rattle.lx_shaped.specs.declared.outcome.Outcome.TheVariants.{Made}

-- what was made stands there
pub record MadeStands : Type 0 where
  pub expr : (d new : Design) (x : Expr) (id : ExprId) → DraftKeeps d → (Made id, new) ≡ make_expr x d → ExprPut d new x id.place
  pub target : (d new : Design) (x : Target) (id : TargetId) → DraftKeeps d → (Made id, new) ≡ make_target x d → TargetPut d new x id.place
  pub stmt : (d new : Design) (x : Stmt) (id : StmtId) → DraftKeeps d → (Made id, new) ≡ make_stmt x d → StmtPut d new x id.place
  pub signal : (d new : Design) (x : Signal) (id : SigId) → IsDraft d → (Made id, new) ≡ make_signal x d → SignalPut d new x id.0
  pub memory : (d new : Design) (x : Memory) (place : ℕ) → IsDraft d → (Made place, new) ≡ make_memory x d → MemoryPut d new x place

-- whatever comes of it, the draft keeps what it keeps, and what stood stays
pub record OldStays : Type 0 where
  pub expr : (d : Design) (x : Expr) → DraftKeeps d → DraftKeeps (make_expr x d).1 × Stays d (make_expr x d).1
  pub target : (d : Design) (x : Target) → DraftKeeps d → DraftKeeps (make_target x d).1 × Stays d (make_target x d).1
  pub stmt : (d : Design) (x : Stmt) → DraftKeeps d → DraftKeeps (make_stmt x d).1 × Stays d (make_stmt x d).1
  pub signal : (d : Design) (x : Signal) → IsDraft d → IsDraft (make_signal x d).1 × Stays d (make_signal x d).1
  pub memory : (d : Design) (x : Memory) → IsDraft d → IsDraft (make_memory x d).1 × Stays d (make_memory x d).1
