-- What comes of nodes over a small draft, worked by hand.
use Rattle.std.specs.Prelude.{◌≡◌, pos, true, List, [], ◌∷◌, ◌++◌, Some, None, codes}
use Rattle.lx_num.specs.Ints.{shape}
use Rattle.lx_tables.specs.declared.operators.Op.TheVariants as op
use Rattle.lx_circuit.specs.declared.WidthFault.TheVariants.{TooWide, SignedShift, BadSlice, BadWidth}
use Rattle.lx_fhdl.specs.Drafts.{started}
use Rattle.lx_fhdl.specs.Instance.{signal_of, the_expr, the_signal, the_stmt, the_target}
use Rattle.lx_fhdl.specs.declared.exprs.Expr.{Expr}
use Rattle.lx_fhdl.specs.declared.exprs.Expr.TheVariants as expr
use Rattle.lx_fhdl.specs.declared.stmts.Target.TheVariants as target
use Rattle.lx_fhdl.specs.declared.stmts.Stmt.TheVariants as stmt
use Rattle.lx_fhdl.specs.declared.design.Design.{Design}
use Rattle.lx_fhdl.specs.declared.design.Memory.{Memory}
use Rattle.lx_shaped.specs.Making.{make_expr, make_memory, make_signal, make_stmt, make_target, shape_made, shape_there}
use Rattle.lx_shaped.specs.declared.outcome.Outcome.TheVariants.{Made, Faulty, Misplaced}

-- three words of eight bits
abbrev pub memory : Memory
memory = record { path = codes "mem" ∷ []; width = 8; depth = 3; init = []; line = 0 }

abbrev pub empty : Design
empty = started (signal_of (codes "a") 4 0 ∷ signal_of (codes "w") 64 0 ∷ []) (memory ∷ [])

-- a of 4 bits, w of 64 bits, and the signed -1 of 2 bits
abbrev pub exprs : List Expr
exprs = expr.Sig (the_signal 0) ∷ expr.Sig (the_signal 1) ∷ expr.Const (pos 3) 2 true ∷ []

-- a and w as targets, and a statement
abbrev pub some : Design
some = record empty {
  exprs = exprs;
  targets = target.Whole (the_signal 0) ∷ target.Whole (the_signal 1) ∷ [];
  stmts = stmt.Assign (the_target 0) (the_expr 2) 7 ∷ [];
}

abbrev pub a_sum : Expr
a_sum = expr.Binary op.Add (the_expr 0) (the_expr 2)

-- expressions that are made
pub record AreMade : Type 0 where
  pub first : make_expr (expr.Sig (the_signal 0)) empty ≡ (Made (the_expr 0), record empty { exprs = expr.Sig (the_signal 0) ∷ [] })
  pub sum : make_expr a_sum some ≡ (Made (the_expr 3), record some { exprs = exprs ++ a_sum ∷ [] })
  pub sum_shape : shape_made a_sum some ≡ Made (shape 6 true)
  pub word : (make_expr (expr.Fetch 0 8 (the_expr 0)) some).0 ≡ Made (the_expr 3)
  pub third_shape : shape_there some 2 ≡ Some (shape 2 true)
  pub no_shape : shape_there some 3 ≡ None

-- expressions whose shapes have a fault
pub record AreFaulty : Type 0 where
  pub wide : make_expr (expr.Binary op.Mul (the_expr 1) (the_expr 1)) some ≡ (Faulty (TooWide 128), some)
  pub signed_amount : make_expr (expr.Binary op.Shl (the_expr 0) (the_expr 2)) some ≡ (Faulty SignedShift, some)
  pub past_the_bits : make_expr (expr.Slice (the_expr 0) 2 5) some ≡ (Faulty BadSlice, some)
  pub no_copies : make_expr (expr.Replicate (the_expr 0) 0) some ≡ (Faulty BadWidth, some)

-- expressions that have no place
pub record HaveNoPlace : Type 0 where
  pub no_signal : make_expr (expr.Sig (the_signal 2)) some ≡ (Misplaced, some)
  pub no_operand : make_expr (expr.Unary op.Not (the_expr 3)) some ≡ (Misplaced, some)
  pub two_operands : make_expr (expr.Binary op.Not (the_expr 0) (the_expr 0)) some ≡ (Misplaced, some)
  pub no_part : make_expr (expr.Cat []) some ≡ (Misplaced, some)
  pub no_item : make_expr (expr.Pick [] (the_expr 0)) some ≡ (Misplaced, some)
  pub no_memory : make_expr (expr.Fetch 1 8 (the_expr 0)) some ≡ (Misplaced, some)
  pub other_width : make_expr (expr.Fetch 0 7 (the_expr 0)) some ≡ (Misplaced, some)
  pub signed_index : make_expr (expr.Fetch 0 8 (the_expr 2)) some ≡ (Misplaced, some)

-- targets and statements
pub record AreAssigned : Type 0 where
  pub part : (make_target (target.Part (the_signal 0) 1 3) some).0 ≡ Made (the_target 2)
  pub part_past_the_bits : make_target (target.Part (the_signal 0) 1 4) some ≡ (Misplaced, some)
  pub narrow : (make_target (target.Cat (the_target 0 ∷ the_target 1 ∷ [])) some).0 ≡ Made (the_target 2)
  pub wide : make_target (target.Cat (the_target 1 ∷ the_target 1 ∷ [])) some ≡ (Faulty (TooWide 128), some)
  pub chosen : (make_target (target.Pick (the_target 1 ∷ the_target 1 ∷ []) (the_expr 0)) some).0 ≡ Made (the_target 2)
  pub signed_index : make_target (target.Pick (the_target 1 ∷ the_target 1 ∷ []) (the_expr 2)) some ≡ (Misplaced, some)
  pub assigned : (make_stmt (stmt.Assign (the_target 1) (the_expr 0) 8) some).0 ≡ Made (the_stmt 1)
  pub no_target : make_stmt (stmt.Assign (the_target 2) (the_expr 0) 8) some ≡ (Misplaced, some)
  pub under : (make_stmt (stmt.If (record { cond = the_expr 0; body = the_stmt 0 ∷ [] } ∷ []) [] 9) some).0 ≡ Made (the_stmt 1)
  pub no_condition : make_stmt (stmt.If (record { cond = the_expr 3; body = the_stmt 0 ∷ [] } ∷ []) [] 9) some ≡ (Misplaced, some)
  pub no_statement : make_stmt (stmt.Case (the_expr 0) [] (the_stmt 1 ∷ []) 9) some ≡ (Misplaced, some)

-- signals and memories
pub record AreDeclared : Type 0 where
  pub signal : (make_signal (signal_of (codes "b") 64 1) some).0 ≡ Made (the_signal 2)
  pub no_bits : make_signal (signal_of (codes "b") 0 0) some ≡ (Misplaced, some)
  pub too_many_bits : make_signal (signal_of (codes "b") 65 0) some ≡ (Misplaced, some)
  pub reset_past_the_bits : make_signal (signal_of (codes "b") 4 16) some ≡ (Misplaced, some)
  pub no_identifier : make_signal (signal_of (codes "2b") 4 0) some ≡ (Misplaced, some)
  pub words : (make_memory (record memory { init = 255 ∷ 0 ∷ 7 ∷ [] }) some).0 ≡ Made 1
  pub no_words : make_memory (record memory { depth = 0 }) some ≡ (Misplaced, some)
  pub more_contents : make_memory (record memory { init = 0 ∷ 0 ∷ 0 ∷ 0 ∷ [] }) some ≡ (Misplaced, some)
  pub wide_contents : make_memory (record memory { init = 256 ∷ [] }) some ≡ (Misplaced, some)
