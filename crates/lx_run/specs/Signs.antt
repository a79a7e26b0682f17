-- Signs and `not` before operands, powers, and operators.
use Rattle.std.specs.Prelude.{ℕ, List, [], ◌∷◌}
use Rattle.lx_value.specs.declared.numbers.PyOp.{PyOp}
use Rattle.lx_value.specs.declared.numbers.PyOp.TheVariants as op
use Rattle.lx_syntax.specs.declared.forms.Operator.{Operator}
use Rattle.lx_syntax.specs.declared.forms.Operator.TheVariants as operator
use Rattle.lx_syntax.specs.declared.forms.Comparison.TheVariants as written
use Rattle.lx_syntax.specs.declared.forms.Comparison as syntax
use Rattle.lx_syntax.specs.declared.forms.Prefix.{Prefix}
use Rattle.lx_syntax.specs.declared.forms.Prefix.TheVariants as prefix
use Rattle.lx_syntax.specs.Ast as ast
use Rattle.lx_state.specs.declared.values.Value.{Value}
use Rattle.lx_state.specs.Step.{Step, give, ◌>>=◌}
use Rattle.lx_ops.specs.declared.comparisons.Comparison.{Comparison}
use Rattle.lx_ops.specs.declared.comparisons.Comparison.TheVariants as comparison
use Rattle.lx_ops.specs.declared.comparisons.Sign.{Sign}
use Rattle.lx_ops.specs.declared.comparisons.Sign.TheVariants as sign_
use Rattle.lx_ops.specs.Binary.{binary}
use Rattle.lx_ops.specs.Compare.{negated, prefixed}
use Rattle.lx_run.specs.declared.signs.Pending.{Pending}
use Rattle.lx_run.specs.declared.signs.Pending.TheVariants as pending

unfoldable pub python_op : Operator → PyOp
python_op operator.Add = op.Add
python_op operator.Sub = op.Sub
python_op operator.Mul = op.Mul
python_op operator.Floor = op.FloorDiv
python_op operator.Remainder = op.Mod
python_op operator.ShiftLeft = op.Shl
python_op operator.ShiftRight = op.Shr
python_op operator.And = op.And
python_op operator.Or = op.Or
python_op operator.Xor = op.Xor

-- a comparison of the text
unfoldable pub comparison_of : syntax.Comparison → Comparison
comparison_of written.Equal = comparison.Equal
comparison_of written.Unequal = comparison.Unequal
comparison_of written.Less = comparison.Less
comparison_of written.LessEqual = comparison.LessEqual
comparison_of written.Greater = comparison.Greater
comparison_of written.GreaterEqual = comparison.GreaterEqual
comparison_of written.In = comparison.In

-- a prefix of the text
unfoldable pub sign_of : Prefix → Sign
sign_of prefix.Minus = sign_.Minus
sign_of prefix.Plus = sign_.Plus
sign_of prefix.Tilde = sign_.Tilde

-- the last `not` comes first, each on its line
unfoldable pub all_negated : List ℕ → Value → Step Value
all_negated [] v = give v
all_negated (line ∷ lines) v = do
  w ← all_negated lines v
  negated line w

-- the last sign comes first, each on its line
unfoldable pub all_signed : List ast.Sign → Value → Step Value
all_signed [] v = give v
all_signed (s ∷ signs) v = do
  w ← all_signed signs v
  prefixed s.line (sign_of s.prefix) w

-- what waits for its operand: `not`, signs, and powers whose base was run
abbrev pub applied : Pending → Value → Step Value
applied (pending.Not line) v = negated line v
applied (pending.Sign s) v = prefixed s.line (sign_of s.prefix) v
applied (pending.Power line base) v = binary line op.Pow base v

-- the last one comes first
unfoldable pub all_applied : List Pending → Value → Step Value
all_applied [] v = give v
all_applied (p ∷ ps) v = do
  w ← all_applied ps v
  applied p w
