-- A design that has statements and expressions of each form: Elif, Case, a Cat and an Array that are assigned, an Array that is read.
use Rattle.std.specs.Prelude.{ℕ, pos, false, List, [], ◌∷◌, ◌++◌, Some, codes}
use Rattle.lx_tables.specs.declared.operators.Op.TheVariants as op
use Rattle.lx_vtext.specs.Tree.{Name}
use Rattle.lx_fhdl.specs.Below.{StmtId}
use Rattle.lx_fhdl.specs.Instance.{the_signal, the_expr, the_target, the_stmt, signal_of}
use Rattle.lx_fhdl.specs.declared.exprs.Expr.{Expr}
use Rattle.lx_fhdl.specs.declared.exprs.Expr.TheVariants as expr
use Rattle.lx_fhdl.specs.declared.stmts.Target.{Target}
use Rattle.lx_fhdl.specs.declared.stmts.Target.TheVariants as target
use Rattle.lx_fhdl.specs.declared.stmts.Branch.{Branch}
use Rattle.lx_fhdl.specs.declared.stmts.Arm.{Arm}
use Rattle.lx_fhdl.specs.declared.stmts.Stmt.{Stmt}
use Rattle.lx_fhdl.specs.declared.stmts.Stmt.TheVariants as stmt
use Rattle.lx_fhdl.specs.declared.exprs.SigId.{SigId}
use Rattle.lx_fhdl.specs.declared.design.Signal.{Signal}
use Rattle.lx_fhdl.specs.declared.design.Domain.{Domain}
use Rattle.lx_fhdl.specs.declared.design.SyncPart.{SyncPart}
use Rattle.lx_fhdl.specs.declared.design.Design.{Design}

-- an unsigned number
abbrev pub number_of : ℕ → ℕ → Expr
number_of value bits = expr.Const (pos value) bits false

abbrev pub line_of : (target value line : ℕ) → Stmt
line_of target value line = stmt.Assign (the_target target) (the_expr value) line

abbrev pub branch_of : ℕ → List StmtId → Branch
branch_of cond body = record { cond = the_expr cond; body = body }

abbrev pub arm_of : ℕ → ℕ → Arm
arm_of key k = record { key = pos key; body = the_stmt k ∷ [] }

-- a, b, 1, 2
unfoldable pub first_exprs : List Expr
first_exprs =
    expr.Sig (the_signal 0) ∷
    expr.Sig (the_signal 1) ∷
    number_of 1 1 ∷
    number_of 2 2 ∷
    []

-- these, a == 2, b[0:1], p, q
unfoldable pub more_exprs : List Expr
more_exprs =
    first_exprs
    ++ expr.Binary op.Eq (the_expr 0) (the_expr 3) ∷
    expr.Slice (the_expr 1) 0 1 ∷
    expr.Sig (the_signal 2) ∷
    expr.Sig (the_signal 3) ∷
    []

-- these, Array([b, p, q])[a], 5
unfoldable pub forms_exprs : List Expr
forms_exprs =
    more_exprs
    ++ expr.Pick (the_expr 1 ∷ the_expr 6 ∷ the_expr 7 ∷ []) (the_expr 0) ∷
    number_of 5 3 ∷
    []

-- p, q, r, s, Cat(r, s), u, v
unfoldable pub first_targets : List Target
first_targets =
    target.Whole (the_signal 2) ∷
    target.Whole (the_signal 3) ∷
    target.Whole (the_signal 4) ∷
    target.Whole (the_signal 5) ∷
    target.Cat (the_target 2 ∷ the_target 3 ∷ []) ∷
    target.Whole (the_signal 6) ∷
    target.Whole (the_signal 7) ∷
    []

-- these, Array([u, v])[a], w, y, y[0:2]
unfoldable pub forms_targets : List Target
forms_targets =
    first_targets
    ++ target.Pick (the_target 5 ∷ the_target 6 ∷ []) (the_expr 0) ∷
    target.Whole (the_signal 8) ∷
    target.Whole (the_signal 9) ∷
    target.Part (the_signal 9) 0 2 ∷
    []

abbrev pub forms_branches : List Branch
forms_branches = branch_of 4 (the_stmt 0 ∷ []) ∷ branch_of 5 (the_stmt 1 ∷ the_stmt 2 ∷ []) ∷ []

-- If(a == 2, p.eq(b)).Elif(b[0:1], p.eq(1), q.eq(2)).Else(p.eq(q))
unfoldable pub if_stmts : List Stmt
if_stmts =
    line_of 0 1 11 ∷
    line_of 0 2 13 ∷
    line_of 1 3 14 ∷
    line_of 0 7 16 ∷
    stmt.If forms_branches (the_stmt 3 ∷ []) 10 ∷
    []

-- these, Case(a, {1: q.eq(b), 5: q.eq(2), 1: q.eq(1), 3: q.eq(p), "default": q.eq(b[0:1])})
unfoldable pub case_stmts : List Stmt
case_stmts =
    if_stmts
    ++ line_of 1 1 21 ∷
    line_of 1 3 22 ∷
    line_of 1 2 23 ∷
    line_of 1 6 24 ∷
    line_of 1 5 25 ∷
    stmt.Case (the_expr 0) (arm_of 1 5 ∷ arm_of 5 6 ∷ arm_of 1 7 ∷ arm_of 3 8 ∷ []) (the_stmt 9 ∷ []) 20 ∷
    []

-- these, Cat(r, s).eq(b), Array([u, v])[a].eq(b), w.eq(Array([b, p, q])[a]), y.eq(5), y[0:2].eq(2)
unfoldable pub forms_stmts : List Stmt
forms_stmts =
    case_stmts
    ++ line_of 4 1 30 ∷
    line_of 7 1 31 ∷
    line_of 8 8 32 ∷
    line_of 9 9 40 ∷
    line_of 10 3 41 ∷
    []

unfoldable pub forms_signals : List Signal
forms_signals =
    signal_of (codes "a") 2 0 ∷
    signal_of (codes "b") 4 0 ∷
    signal_of (codes "p") 4 1 ∷
    signal_of (codes "q") 4 0 ∷
    signal_of (codes "r") 2 0 ∷
    signal_of (codes "s") 3 0 ∷
    signal_of (codes "u") 4 0 ∷
    signal_of (codes "v") 4 0 ∷
    signal_of (codes "w") 4 0 ∷
    signal_of (codes "y") 3 0 ∷
    signal_of (codes "sys_rst") 1 0 ∷
    []

-- all statements but those of y, which read nothing
abbrev pub clocked : SyncPart
clocked = record { domain = 0; stmts = the_stmt 4 ∷ the_stmt 10 ∷ the_stmt 11 ∷ the_stmt 12 ∷ the_stmt 13 ∷ [] }

abbrev pub sys : Domain
sys = record { name = codes "sys"; reset = Some (the_signal 10) }

-- all signals but the reset
abbrev pub forms_ios : List SigId
forms_ios =
    the_signal 0 ∷ the_signal 1 ∷ the_signal 2 ∷ the_signal 3 ∷ the_signal 4 ∷ the_signal 5 ∷ the_signal 6 ∷ the_signal 7
    ∷ the_signal 8 ∷ the_signal 9 ∷ []

-- The statements of y stand in no domain, the others in `sys`.
abbrev pub of_parts : List Expr → List Target → List Stmt → List Signal → Design
of_parts exprs targets stmts signals = record {
  exprs = exprs;
  targets = targets;
  stmts = stmts;
  signals = signals;
  comb = the_stmt 14 ∷ the_stmt 15 ∷ [];
  sync = clocked ∷ [];
  memories = [];
  ports = [];
  domains = sys ∷ [];
  ios = forms_ios;
}

unfoldable pub forms : Design
forms = of_parts forms_exprs forms_targets forms_stmts forms_signals

abbrev pub forms_names : List Name
forms_names =
    codes "a" ∷ codes "b" ∷ codes "p" ∷ codes "q" ∷ codes "r" ∷ codes "s" ∷ codes "u" ∷ codes "v" ∷ codes "w" ∷ codes "y"
    ∷ codes "sys_rst" ∷ []
