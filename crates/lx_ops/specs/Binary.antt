-- Operators between two operands.
use Rattle.std.specs.Prelude.{ℕ, ℤ, zero, suc, Bool, true, false, ◌*◌, nat_lt, if◌then◌else◌, List, [], ◌++◌, length, Option, Some, None, Result, Ok, Err}
use Rattle.lx_text.specs.declared.faults.LimitKind.TheVariants as limit
use Rattle.lx_text.specs.declared.faults.Kind.TheVariants as kind
use Rattle.lx_num.specs.Fewest.{below_zero, magnitude_of}
use Rattle.lx_text.specs.Limits.{limit_number}
use Rattle.lx_tables.specs.declared.operators.Op.{Op}
use Rattle.lx_tables.specs.declared.operators.Op.TheVariants as node
use Rattle.lx_value.specs.Numbers.{python_value, ranged}
use Rattle.lx_value.specs.declared.numbers.NumFault.{NumFault}
use Rattle.lx_value.specs.declared.numbers.PyOp.{PyOp}
use Rattle.lx_value.specs.declared.numbers.PyOp.TheVariants as op
use Rattle.lx_state.specs.declared.values.Value.{Value}
use Rattle.lx_state.specs.declared.values.Value.TheVariants as value
use Rattle.lx_state.specs.Lists.{items_of, list_made, list_of, text_made, text_of, tuple_made}
use Rattle.lx_state.specs.Step.{Step, give, fault, or_fault, ◌>>=◌}
use Rattle.lx_ops.specs.Exprs.{binary_made, numbered}
use Rattle.lx_ops.specs.declared.operators.Operands.{Operands}
use Rattle.lx_ops.specs.declared.operators.Operands.TheVariants as operands

-- FHDL's operator
abbrev pub node_op : PyOp → Option Op
node_op op.Add = Some node.Add
node_op op.Sub = Some node.Sub
node_op op.Mul = Some node.Mul
node_op op.FloorDiv = None
node_op op.Mod = None
node_op op.Pow = None
node_op op.Shl = Some node.Shl
node_op op.Shr = Some node.Shr
node_op op.And = Some node.And
node_op op.Or = Some node.Or
node_op op.Xor = Some node.Xor

abbrev pub python_of : PyOp → Result ℤ NumFault → Result ℤ NumFault → Result ℤ NumFault
python_of op (Ok a) (Ok b) = python_value op a b
python_of op (Ok a) (Err f) = Err f
python_of op (Err f) _ = Err f

-- Python's operator of two integers
abbrev pub python : PyOp → ℤ → ℤ → Result ℤ NumFault
python op a b = python_of op (ranged a) (ranged b)

unfoldable pub number_made : ℕ → PyOp → ℤ → ℤ → Step Value
number_made line op a b = do
  z ← numbered line (python op a b)
  give (value.Int z)

-- an expression stands on one side
unfoldable pub node_made : ℕ → PyOp → Value → Value → Step Value
node_made line op a b = do
  by_ ← or_fault (node_op op) line kind.WrongKind
  binary_made line by_ a b

abbrev pub is_sum : PyOp → Bool
is_sum op.Add = true
is_sum _ = false

abbrev pub is_product : PyOp → Bool
is_product op.Mul = true
is_product _ = false

-- other operators there are none
unfoldable pub only_where : ℕ → Bool → Step (Unit {0})
only_where line holds m = if holds then give tt m else fault line kind.WrongKind m

unfoldable pub texts_joined : ℕ → PyOp → Value → Value → Step Value
texts_joined line op a b = do
  _ ← only_where line (is_sum op)
  x ← text_of line a
  y ← text_of line b
  text_made line (x ++ y)

unfoldable pub lists_joined : ℕ → PyOp → Value → Value → Step Value
lists_joined line op a b = do
  _ ← only_where line (is_sum op)
  x ← items_of line a
  y ← items_of line b
  list_made line (x ++ y)

unfoldable pub tuples_joined : ℕ → PyOp → Value → Value → Step Value
tuples_joined line op a b = do
  _ ← only_where line (is_sum op)
  x ← items_of line a
  y ← items_of line b
  tuple_made line (x ++ y)

-- so often; not at all below 0
abbrev pub times : ℤ → ℕ
times z = if below_zero z then 0 else magnitude_of z

unfoldable pub copies : {A : Type 0} → ℕ → List A → List A
copies zero xs = []
copies (suc n) xs = copies n xs ++ xs

-- no list is longer than the work that a description may do
abbrev pub repeated : ℕ → ℕ → List Value → Step Value
repeated line often xs m =
    if nat_lt (limit_number limit.Work) (often * length xs) then fault line (kind.Limit limit.Work) m else list_made line (copies often xs) m

unfoldable pub list_repeated : ℕ → PyOp → Value → ℤ → Step Value
list_repeated line op a n = do
  _ ← only_where line (is_product op)
  xs ← list_of line a
  repeated line (times n) xs

-- what the operands are
abbrev pub beside_number : ℤ → Value → Operands
beside_number a (value.Int b) = operands.Numbers a b
beside_number a (value.Expr e) = operands.Nodes
beside_number a (value.List l) = operands.Repeated (value.List l) a
beside_number a _ = operands.Others

abbrev pub beside_node : Value → Operands
beside_node (value.Int b) = operands.Nodes
beside_node (value.Expr e) = operands.Nodes
beside_node _ = operands.Others

abbrev pub beside_list : Value → Value → Operands
beside_list xs (value.Int b) = operands.Repeated xs b
beside_list xs (value.List l) = operands.Lists
beside_list xs _ = operands.Others

abbrev pub beside_tuple : Value → Operands
beside_tuple (value.Tuple l) = operands.Tuples
beside_tuple _ = operands.Others

abbrev pub beside_text : Value → Operands
beside_text (value.Text l) = operands.Texts
beside_text _ = operands.Others

abbrev pub operands_of : Value → Value → Operands
operands_of (value.Int a) b = beside_number a b
operands_of (value.Expr e) b = beside_node b
operands_of (value.List l) b = beside_list (value.List l) b
operands_of (value.Tuple l) b = beside_tuple b
operands_of (value.Text l) b = beside_text b
operands_of _ b = operands.Others

abbrev pub operated : ℕ → PyOp → Value → Value → Operands → Step Value
operated line op a b (operands.Numbers x y) m = number_made line op x y m
operated line op a b operands.Nodes m = node_made line op a b m
operated line op a b operands.Texts m = texts_joined line op a b m
operated line op a b operands.Lists m = lists_joined line op a b m
operated line op a b operands.Tuples m = tuples_joined line op a b m
operated line op a b (operands.Repeated xs n) m = list_repeated line op xs n m
operated line op a b operands.Others m = fault line kind.WrongKind m

-- `a op b`
unfoldable pub binary : ℕ → PyOp → Value → Value → Step Value
binary line op a b m = operated line op a b (operands_of a b) m
