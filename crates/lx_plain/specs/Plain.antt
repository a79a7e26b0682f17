-- Drafts of lowered designs, and how they grow.
use Rattle.std.specs.Prelude.{◌≡◌, ℕ, List, Some, true, ◌<◌, length, slice_get}
use Rattle.lx_num.specs.Ints.{unsigned}
use Rattle.lx_circuit.specs.Shapes.{shape_of}
use Rattle.lx_circuit.specs.Terms.{Term}
use Rattle.lx_fhdl.specs.Designs.{shapes, target, term}
use Rattle.lx_fhdl.specs.Drafts.{CanAddExpr, ExprPut, Stays, StmtPut, TargetPut}
use Rattle.lx_fhdl.specs.Lowered.{is_no_pick}
use Rattle.lx_fhdl.specs.declared.design.Design.{Design}
use Rattle.lx_fhdl.specs.declared.exprs.Expr.{Expr}
use Rattle.lx_fhdl.specs.declared.stmts.Stmt.{Stmt}
use Rattle.lx_fhdl.specs.declared.stmts.Target.{Target}
use Rattle.lx_plain.specs.Lines.{assigned_by, expr_shape, lines_at, node_lines}

-- no expression picks an item of a list
abbrev pub ArePlain : Design → Type 0
ArePlain d = (k : ℕ) (x : Expr) → slice_get d.exprs k ≡ Some x → is_no_pick x ≡ true

-- a slot for each signal
pub record IsPlain (d : Design) (slots : List ℕ) : Type 0 where
  pub plain : ArePlain d
  pub slots_long : length slots ≡ length d.signals

-- an expression that can be added, and picks no item
pub record CanAdd (d : Design) (x : Expr) : Type 0 where
  pub sound : CanAddExpr d x
  pub plain : is_no_pick x ≡ true

-- the draft grows by nodes: its signals and memories are the same, and its trees and lines stay
pub record Grows (old new : Design) : Type 0 where
  pub signals : new.signals ≡ old.signals
  pub memories : new.memories ≡ old.memories
  pub stays : Stays old new
  pub lines : (x k : ℕ) → k < length old.stmts → lines_at new x k ≡ lines_at old x k

-- a node more
pub record ExprAdded (old new : Design) (x : Expr) (id : ℕ) : Type 0 where
  pub grows : Grows old new
  pub put : ExprPut old new x id

pub record TargetAdded (old new : Design) (x : Target) (id : ℕ) : Type 0 where
  pub grows : Grows old new
  pub put : TargetPut old new x id

pub record StmtAdded (old new : Design) (x : Stmt) (id : ℕ) : Type 0 where
  pub grows : Grows old new
  pub put : StmtPut old new x id
  pub lines : (s : ℕ) → lines_at new s id ≡ node_lines (assigned_by old s) (expr_shape old) (lines_at old s) x

-- a tree more hangs there
pub record TermPut (old new : Design) (id : ℕ) (t : Term) : Type 0 where
  pub grows : Grows old new
  pub within : id < length new.exprs
  pub tree : term new id ≡ t

-- a condition of one bit
pub record IsBit (d : Design) (k : ℕ) : Type 0 where
  pub there : k < length d.exprs
  pub bit : shape_of (shapes d) (term d k) ≡ unsigned 1
