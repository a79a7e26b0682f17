-- Operands of FHDL, and its operators.
use Rattle.std.specs.Prelude.{ℕ, ℤ, zero, suc, pos, negsuc, Bool, ◌+◌, ◌-◌, ◌^◌, nat_lt, if◌then◌else◌, List, [], ◌∷◌, Option, Some, None, Result, Ok, Err}
use Rattle.lx_num.specs.Fewest.{below_zero}
use Rattle.lx_text.specs.declared.faults.Kind.{Kind}
use Rattle.lx_text.specs.declared.faults.Kind.TheVariants as kind
use Rattle.lx_tables.specs.declared.operators.Op.{Op}
use Rattle.lx_value.specs.declared.numbers.NumFault.{NumFault}
use Rattle.lx_value.specs.declared.numbers.NumFault.TheVariants as number
use Rattle.lx_fhdl.specs.Below.{ExprId}
use Rattle.lx_fhdl.specs.declared.exprs.Expr.TheVariants as expr
use Rattle.lx_state.specs.declared.values.Value.{Value}
use Rattle.lx_state.specs.declared.values.Value.TheVariants as value
use Rattle.lx_state.specs.Step.{Step, give, fault, ◌>>=◌}
use Rattle.lx_objects.specs.Exprs.{expr_made, put_expr}

-- the fault of a number
abbrev pub number_kind : NumFault → Kind
number_kind number.DivZero = kind.DivZero
number_kind number.NumberRange = kind.NumberRange

-- the number, or the fault that it has
abbrev pub numbered : ℕ → Result ℤ NumFault → Step ℤ
numbered line (Ok z) m = give z m
numbered line (Err f) m = fault line (number_kind f) m

-- n bits hold the number, signed where it is below 0
abbrev pub is_held : ℤ → ℕ → Bool
is_held (pos a) n = nat_lt a (2 ^ n)
is_held (negsuc a) n = nat_lt a (2 ^ (n - 1))

-- the least of so many numbers of bits, from n on, that hold it
unfoldable pub least : ℤ → ℕ → ℕ → ℕ
least z zero n = n
least z (suc more) n = if is_held z n then n else least z more (n + 1)

-- the fewest bits, at least 1, that hold it
abbrev pub fewest : ℤ → ℕ
fewest z = least z 127 1

-- an integer as an expression, which counts no node
unfoldable pub constant : ℕ → ℤ → Step ExprId
constant line z = put_expr line (expr.Const z (fewest z) (below_zero z))

-- an operand: an expression or an integer
unfoldable pub expr_of : ℕ → Value → Step ExprId
expr_of line (value.Expr id) m = give id m
expr_of line (value.Int n) m = constant line n m
expr_of line _ m = fault line kind.WrongKind m

-- operands in their order
unfoldable pub exprs_of : ℕ → List Value → Step (List ExprId)
exprs_of line [] = give []
exprs_of line (v ∷ vs) = do
  id ← expr_of line v
  ids ← exprs_of line vs
  give (id ∷ ids)

-- an expression of FHDL itself
abbrev pub expression : Value → Option ExprId
expression (value.Expr id) = Some id
expression _ = None

unfoldable pub unary_made : ℕ → Op → ExprId → Step Value
unary_made line op of = expr_made line 1 (expr.Unary op of)

unfoldable pub binary_made : ℕ → Op → Value → Value → Step Value
binary_made line op a b = do
  left ← expr_of line a
  right ← expr_of line b
  expr_made line 1 (expr.Binary op left right)
