-- Expressions, targets and statements of FHDL as a description makes them.
use Rattle.std.specs.Prelude.{ℕ}
use Rattle.lx_circuit.specs.declared.WidthFault.{WidthFault}
use Rattle.lx_circuit.specs.declared.WidthFault.TheVariants as width
use Rattle.lx_text.specs.declared.faults.Kind.{Kind}
use Rattle.lx_text.specs.declared.faults.Kind.TheVariants as kind
use Rattle.lx_fhdl.specs.Below.{ExprId, StmtId, TargetId}
use Rattle.lx_fhdl.specs.declared.design.Design.{Design}
use Rattle.lx_fhdl.specs.declared.exprs.Expr.{Expr}
use Rattle.lx_fhdl.specs.declared.stmts.Stmt.{Stmt}
use Rattle.lx_fhdl.specs.declared.stmts.Target.{Target}
use Rattle.lx_shaped.specs.Making.{make_expr, make_stmt, make_target}
use Rattle.lx_shaped.specs.declared.outcome.Outcome.{Outcome}
use Rattle.lx_shaped.specs.declared.outcome.Outcome.TheVariants as outcome
use Rattle.lx_state.specs.declared.values.Value.{Value}
use Rattle.lx_state.specs.declared.values.Value.TheVariants as value
use Rattle.lx_state.specs.Step.{Step, give, fault, ◌>>=◌}
use Rattle.lx_state.specs.Work.{spend_nodes}

-- the fault of a shape
abbrev pub width_kind : WidthFault → Kind
width_kind (width.TooWide bits) = kind.TooWide bits
width_kind width.SignedShift = kind.SignedShift
width_kind width.BadSlice = kind.BadSlice
width_kind width.BadWidth = kind.BadWidth

-- what came of a node, in the design that is left
abbrev pub put : {A : Type 0} → ℕ → Outcome A → Design → Step A
put line (outcome.Made id) d m = give id (record m { shaped = d })
put line (outcome.Faulty f) d m = fault line (width_kind f) m
put line outcome.Misplaced d m = fault line kind.WrongKind m

unfoldable pub put_expr : ℕ → Expr → Step ExprId
put_expr line node m = put line (make_expr node m.shaped).0 (make_expr node m.shaped).1 m

unfoldable pub put_target : ℕ → Target → Step TargetId
put_target line node m = put line (make_target node m.shaped).0 (make_target node m.shaped).1 m

unfoldable pub put_stmt : ℕ → Stmt → Step StmtId
put_stmt line node m = put line (make_stmt node m.shaped).0 (make_stmt node m.shaped).1 m

-- an expression that counts so many nodes; the fault of its shape comes first
unfoldable pub expr_made : ℕ → ℕ → Expr → Step Value
expr_made line count node = do
  id ← put_expr line node
  _ ← spend_nodes line count
  give (value.Expr id)
