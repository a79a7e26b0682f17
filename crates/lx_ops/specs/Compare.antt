-- Comparisons, truth and signs.
use Rattle.std.specs.Prelude.{ℕ, ℤ, pos, negsuc, Bool, true, false, not, ◌||◌, int_lt, if◌then◌else◌, List, [], ◌∷◌, Option, Some, None, option_map}
use Rattle.std.specs.Ordering.{int_eq}
use Rattle.std.specs.Str.{bytes_eq}
use Rattle.lx_text.specs.declared.faults.Kind.TheVariants as kind
use Rattle.lx_tables.specs.declared.operators.Op.{Op}
use Rattle.lx_tables.specs.declared.operators.Op.TheVariants as node
use Rattle.lx_value.specs.declared.numbers.PyOp.TheVariants as op
use Rattle.lx_fhdl.specs.Below.{ExprId}
use Rattle.lx_state.specs.declared.machine.Machine.{Machine}
use Rattle.lx_state.specs.declared.values.Value.{Value}
use Rattle.lx_state.specs.declared.values.Value.TheVariants as value
use Rattle.lx_state.specs.Lists.{int_of, items_at, items_of, text_at}
use Rattle.lx_state.specs.Step.{Step, give, fault, or_fault, ◌>>=◌}
use Rattle.lx_ops.specs.Binary.{number_made}
use Rattle.lx_ops.specs.Exprs.{binary_made, unary_made}
use Rattle.lx_ops.specs.declared.comparisons.Comparison.{Comparison}
use Rattle.lx_ops.specs.declared.comparisons.Comparison.TheVariants as by_
use Rattle.lx_ops.specs.declared.comparisons.Sign.{Sign}
use Rattle.lx_ops.specs.declared.comparisons.Sign.TheVariants as sign_

-- True is 1 and False is 0
abbrev pub truth_value : Bool → Value
truth_value true = value.Int (pos 1)
truth_value false = value.Int (pos 0)

-- ---- truth

abbrev pub is_filled : {A : Type 0} → List A → Bool
is_filled [] = false
is_filled (x ∷ xs) = true

-- 0, None and what is empty are false
abbrev pub holds : Machine → Value → Option Bool
holds m value.Nothing = Some false
holds m (value.Int n) = Some (not (int_eq n (pos 0)))
holds m (value.Text at) = option_map is_filled (text_at m (value.Text at))
holds m (value.List at) = option_map is_filled (items_at m (value.List at))
holds m (value.Tuple at) = option_map is_filled (items_at m (value.Tuple at))
holds m _ = None

unfoldable pub truth : ℕ → Value → Step Bool
truth line v m = or_fault (holds m v) line kind.WrongKind m

unfoldable pub negated : ℕ → Value → Step Value
negated line v = do
  held ← truth line v
  give (truth_value (not held))

-- ---- equality

abbrev pub same_bytes : Option (List ℕ) → Option (List ℕ) → Option Bool
same_bytes (Some xs) (Some ys) = Some (bytes_eq xs ys)
same_bytes (Some xs) None = None
same_bytes None _ = None

-- an integer, a text or None
abbrev pub is_plain : Value → Bool
is_plain value.Nothing = true
is_plain (value.Int n) = true
is_plain (value.Text at) = true
is_plain _ = false

-- beside a value of another kind; only those three are compared
abbrev pub unlike : Value → Option Bool
unlike b = if is_plain b then Some false else None

abbrev pub as_nothing : Value → Option Bool
as_nothing value.Nothing = Some true
as_nothing b = unlike b

abbrev pub as_number : ℤ → Value → Option Bool
as_number a (value.Int b) = Some (int_eq a b)
as_number a b = unlike b

abbrev pub as_text : Machine → Value → Value → Option Bool
as_text m a (value.Text b) = same_bytes (text_at m a) (text_at m (value.Text b))
as_text m a b = unlike b

-- whether two of them are equal; of two kinds they differ
abbrev pub same : Machine → Value → Value → Option Bool
same m value.Nothing b = as_nothing b
same m (value.Int a) b = as_number a b
same m (value.Text a) b = as_text m (value.Text a) b
same m _ b = None

unfoldable pub equal : ℕ → Value → Value → Step Bool
equal line a b m = or_fault (same m a b) line kind.WrongKind m

-- the items from the left, as far as the first one that is equal
unfoldable pub among : ℕ → Value → List Value → Step Bool
among line a [] = give false
among line a (x ∷ xs) = do
  found ← equal line a x
  if found then give true else among line a xs

unfoldable pub contained : ℕ → Value → Value → Step Bool
contained line a b = do
  items ← items_of line b
  among line a items

-- ---- comparisons

-- FHDL's operator
abbrev pub node_comparison : Comparison → Option Op
node_comparison by_.Equal = Some node.Eq
node_comparison by_.Unequal = Some node.Ne
node_comparison by_.Less = Some node.Lt
node_comparison by_.LessEqual = Some node.Le
node_comparison by_.Greater = Some node.Gt
node_comparison by_.GreaterEqual = Some node.Ge
node_comparison by_.In = None

-- of two integers
abbrev pub ordered : Comparison → ℤ → ℤ → Bool
ordered by_.Less a b = int_lt a b
ordered by_.LessEqual a b = not (int_lt b a)
ordered by_.Greater a b = int_lt b a
ordered by_.GreaterEqual a b = not (int_lt a b)
ordered _ a b = false

unfoldable pub in_order : ℕ → Comparison → Value → Value → Step Bool
in_order line by a b = do
  x ← int_of line a
  y ← int_of line b
  give (ordered by x y)

unfoldable pub unequal : ℕ → Value → Value → Step Bool
unequal line a b = do
  found ← equal line a b
  give (not found)

-- what Python compares
abbrev pub compared : ℕ → Comparison → Value → Value → Step Bool
compared line by_.In a b m = contained line a b m
compared line by_.Equal a b m = equal line a b m
compared line by_.Unequal a b m = unequal line a b m
compared line by a b m = in_order line by a b m

unfoldable pub truth_of_compared : ℕ → Comparison → Value → Value → Step Value
truth_of_compared line by a b = do
  held ← compared line by a b
  give (truth_value held)

abbrev pub is_expression : Value → Bool
is_expression (value.Expr id) = true
is_expression _ = false

-- an expression on one side makes an expression, but not of `in`
abbrev pub comparison_made : ℕ → Comparison → Value → Value → Option Op → Step Value
comparison_made line by a b None m = truth_of_compared line by a b m
comparison_made line by a b (Some op) m =
    if is_expression a || is_expression b then binary_made line op a b m else truth_of_compared line by a b m

-- `a by b`
unfoldable pub compare : ℕ → Comparison → Value → Value → Step Value
compare line by a b = comparison_made line by a b (node_comparison by)

-- ---- signs

abbrev pub number_signed : ℕ → Sign → ℤ → Step Value
number_signed line sign_.Minus n m = number_made line op.Sub (pos 0) n m
number_signed line sign_.Plus n m = give (value.Int n) m
number_signed line sign_.Tilde n m = number_made line op.Sub (negsuc 0) n m

abbrev pub node_signed : ℕ → Sign → ExprId → Step Value
node_signed line sign_.Minus e m = unary_made line node.Neg e m
node_signed line sign_.Plus e m = fault line kind.WrongKind m
node_signed line sign_.Tilde e m = unary_made line node.Not e m

-- `-a`, `+a`, `~a`; `~a` of an integer is `-1 - a`
unfoldable pub prefixed : ℕ → Sign → Value → Step Value
prefixed line sign (value.Int n) m = number_signed line sign n m
prefixed line sign (value.Expr e) m = node_signed line sign e m
prefixed line sign _ m = fault line kind.WrongKind m
