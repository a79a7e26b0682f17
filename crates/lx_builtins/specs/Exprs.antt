-- Built-in names that make expressions of FHDL.
use Rattle.std.specs.Prelude.{ℕ, ℤ, pos, negsuc, Bool, true, false, not, min, if◌then◌else◌, List, [], ◌∷◌, Option, Some, None, codes}
use Rattle.std.specs.List.{list_all}
use Rattle.lx_text.specs.declared.faults.Kind.TheVariants as kind
use Rattle.lx_num.specs.Fewest.{below_zero}
use Rattle.lx_fhdl.specs.declared.exprs.Expr.TheVariants as expr
use Rattle.lx_state.specs.declared.values.Value.{Value}
use Rattle.lx_state.specs.declared.values.Value.TheVariants as value
use Rattle.lx_state.specs.Lists.{array_made, int_of, ints_of, items_of, list_of}
use Rattle.lx_state.specs.Step.{Step, give, fault, ◌>>=◌}
use Rattle.lx_objects.specs.Exprs.{expr_made}
use Rattle.lx_ops.specs.Compare.{is_filled}
use Rattle.lx_ops.specs.Exprs.{expr_of, exprs_of, fewest}
use Rattle.lx_builtins.specs.Arguments.{one_or_two, three, two, unnamed}
use Rattle.lx_builtins.specs.Numbers.{counts, is_zero}
use Rattle.lx_builtins.specs.declared.arguments.Arguments.{Arguments}
use Rattle.lx_builtins.specs.declared.exprs.StatedShape.{StatedShape}

-- ---- stated shapes

abbrev pub stated_by : ℕ → List ℤ → Step StatedShape
stated_by line (bits ∷ signed ∷ []) m = give (record { bits = bits; signed = not (is_zero signed) }) m
stated_by line _ m = fault line kind.WrongKind m

unfoldable pub stated_pair : ℕ → Value → Step StatedShape
stated_pair line v = do
  items ← items_of line v
  numbers ← ints_of line items
  stated_by line numbers

-- a number of bits, or a pair of it and whether the values are signed
unfoldable pub stated : ℕ → Value → Step StatedShape
stated line (value.Int bits) m = give (record { bits = bits; signed = false }) m
stated line (value.Tuple at) m = stated_pair line (value.Tuple at) m
stated line _ m = fault line kind.WrongKind m

-- a stated width or count as it is kept
abbrev pub kept : ℤ → ℕ
kept (pos n) = min n 4294967295
kept (negsuc n) = 0

-- ---- expressions

abbrev pub plain_constant : ℕ → ℤ → Step Value
plain_constant line z = expr_made line 1 (expr.Const z (fewest z) (below_zero z))

unfoldable pub shaped_constant : ℕ → ℤ → Value → Step Value
shaped_constant line z s = do
  shape ← stated line s
  expr_made line 1 (expr.Const z (kept shape.bits) shape.signed)

abbrev pub constant_of : ℕ → ℤ → Option Value → Step Value
constant_of line z None m = plain_constant line z m
constant_of line z (Some s) m = shaped_constant line z s m

-- `C(v, s)`
unfoldable pub constant_called : ℕ → Arguments → Step Value
constant_called line args = do
  both ← one_or_two line (codes "v") (codes "s") args
  z ← int_of line both.0
  constant_of line z both.1

-- `Cat(..)`
unfoldable pub cat_called : ℕ → Arguments → Step Value
cat_called line args = do
  values ← unnamed line args
  _ ← counts line (is_filled values)
  ids ← exprs_of line values
  expr_made line 1 (expr.Cat ids)

-- `Replicate(a, k)`
unfoldable pub replicate_called : ℕ → Arguments → Step Value
replicate_called line args = do
  both ← two line (codes "a") (codes "k") args
  id ← expr_of line both.0
  k ← int_of line both.1
  expr_made line 1 (expr.Replicate id (kept k))

-- `Mux(c, a, b)`
unfoldable pub mux_called : ℕ → Arguments → Step Value
mux_called line args = do
  given ← three line (codes "c") (codes "a") (codes "b") args
  c ← expr_of line given.first
  a ← expr_of line given.second
  b ← expr_of line given.third
  expr_made line 1 (expr.Mux c a b)

-- ---- Arrays

abbrev pub is_operand : Value → Bool
is_operand (value.Int n) = true
is_operand (value.Expr id) = true
is_operand _ = false

unfoldable pub operands_only : ℕ → List Value → Step (Unit {0})
operands_only line values m = if list_all is_operand values then give tt m else fault line kind.WrongKind m

unfoldable pub array_of_list : ℕ → Value → Step Value
array_of_list line v = do
  items ← list_of line v
  _ ← counts line (is_filled items)
  _ ← operands_only line items
  array_made line items

abbrev pub array_from : ℕ → List Value → Step Value
array_from line (v ∷ []) m = array_of_list line v m
array_from line _ m = fault line kind.WrongCount m

-- `Array(..)` of a list of expressions and integers
unfoldable pub array_called : ℕ → Arguments → Step Value
array_called line args = do
  values ← unnamed line args
  array_from line values
