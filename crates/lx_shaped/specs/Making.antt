-- What comes of a node that is to be added to a draft of a design, and the design after it.
use Rattle.std.specs.Prelude.{ℕ, Bool, true, [], ◌∷◌, ◌++◌, Option, Some, None, Result, Ok, Err, ◌&&◌, not, length, nat_lt, if◌then◌else◌}
use Rattle.lx_num.specs.declared.Shape.{Shape}
use Rattle.lx_circuit.specs.declared.WidthFault.{WidthFault}
use Rattle.lx_circuit.specs.Shapes.{shape_of, fault_of, too_wide}
use Rattle.lx_circuit.specs.Statements.{target_bits}
use Rattle.lx_fhdl.specs.Below.{ExprId, TargetId, StmtId, expr_below, target_below, stmt_below}
use Rattle.lx_fhdl.specs.Designs as design
use Rattle.lx_fhdl.specs.Designs.{shapes}
use Rattle.lx_fhdl.specs.Instance.{the_expr, the_signal, the_target, the_stmt}
use Rattle.lx_fhdl.specs.Kept.{is_memory, is_signal, takes_operands, has_parts, has_plain_index, names_there, target_stands, stmt_stands}
use Rattle.lx_fhdl.specs.Stmts.{node_target}
use Rattle.lx_fhdl.specs.Trees.{node_term}
use Rattle.lx_fhdl.specs.declared.design.Memory.{Memory}
use Rattle.lx_fhdl.specs.declared.design.Signal.{Signal}
use Rattle.lx_fhdl.specs.declared.exprs.Expr.{Expr}
use Rattle.lx_fhdl.specs.declared.exprs.SigId.{SigId}
use Rattle.lx_fhdl.specs.declared.stmts.Stmt.{Stmt}
use Rattle.lx_fhdl.specs.declared.stmts.Target.{Target}
use Rattle.lx_fhdl.specs.declared.design.Design.{Design}
use Rattle.lx_shaped.specs.declared.outcome.Outcome.{Outcome}
use Rattle.lx_shaped.specs.declared.outcome.Outcome.TheVariants.{Made, Faulty, Misplaced}

-- what stands in its place is made where it has no fault
abbrev pub judged : {T : Type 0} → Bool → Option WidthFault → T → Outcome T
judged true None made = Made made
judged true (Some fault) made = Faulty fault
judged _ fault made = Misplaced

-- the value where there is no fault
abbrev pub unless : {T : Type 0} → Option WidthFault → T → Result T WidthFault
unless None value = Ok value
unless (Some fault) value = Err fault

-- the outcome, and the design after it: the new one where something was made
abbrev pub tried : {T : Type 0} → Outcome T → (new old : Design) → Outcome T × Design
tried (Made made) new old = (Made made, new)
tried outcome new old = (outcome, old)

-- ---- expressions

-- what it names is there, and it has the operands that it takes
abbrev pub expr_stands : Expr → Design → Bool
expr_stands x d =
    expr_below x (length d.exprs)
    && (takes_operands x && (has_parts x && (names_there (length d.signals) d.memories x && has_plain_index (shapes d) d.exprs x)))

-- its fault and its shape
abbrev pub expr_fault : Expr → Design → Option WidthFault
expr_fault x d = fault_of (shapes d) (node_term (design.term d) x)

abbrev pub expr_shape : Expr → Design → Shape
expr_shape x d = shape_of (shapes d) (node_term (design.term d) x)

-- The shape that an expression has when it is made.
unfoldable pub shape_made : Expr → Design → Outcome Shape
shape_made x d = judged (expr_stands x d) (expr_fault x d) (expr_shape x d)

-- An expression is added at the end.
unfoldable pub make_expr : Expr → Design → Outcome ExprId × Design
make_expr x d = tried (judged (expr_stands x d) (expr_fault x d) (the_expr (length d.exprs))) (record d { exprs = d.exprs ++ x ∷ [] }) d

-- the shape of the expression at a place
abbrev pub shape_there : Design → ℕ → Option Shape
shape_there d k = if nat_lt k (length d.exprs) then Some (shape_of (shapes d) (design.term d k)) else None

-- ---- targets and statements

abbrev pub target_width : Target → Design → ℕ
target_width x d = target_bits (shapes d) (node_target (design.term d) (design.target d) x)

-- a target has at most 127 bits
abbrev pub target_fault : Target → Design → Option WidthFault
target_fault x d = too_wide (target_width x d)

-- an expression is there, and unsigned
abbrev pub has_plain : Design → ExprId → Bool
has_plain d id = nat_lt id.place (length d.exprs) && not (shape_of (shapes d) (design.term d id.place)).signed

abbrev pub target_in : Target → Design → Bool
target_in x d = target_below x (length d.targets) && target_stands (shapes d) (length d.signals) d.exprs x

-- A target is added at the end.
unfoldable pub make_target : Target → Design → Outcome TargetId × Design
make_target x d = tried (judged (target_in x d) (target_fault x d) (the_target (length d.targets))) (record d { targets = d.targets ++ x ∷ [] }) d

abbrev pub stmt_in : Stmt → Design → Bool
stmt_in x d = stmt_below x (length d.stmts) && stmt_stands (length d.exprs) (length d.targets) x

-- A statement is added at the end.
unfoldable pub make_stmt : Stmt → Design → Outcome StmtId × Design
make_stmt x d = tried (judged (stmt_in x d) None (the_stmt (length d.stmts))) (record d { stmts = d.stmts ++ x ∷ [] }) d

-- ---- signals and memories

-- A signal is added at the end.
unfoldable pub make_signal : Signal → Design → Outcome SigId × Design
make_signal x d = tried (judged (is_signal x) None (the_signal (length d.signals))) (record d { signals = d.signals ++ x ∷ [] }) d

-- A memory is added at the end.
unfoldable pub make_memory : Memory → Design → Outcome ℕ × Design
make_memory x d = tried (judged (is_memory x) None (length d.memories)) (record d { memories = d.memories ++ x ∷ [] }) d
