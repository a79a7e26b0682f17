-- Subscripts and slices.
use Rattle.std.specs.Prelude.{ℕ, ℤ, ◌+◌, ◌-◌, min, nat_lt, if◌then◌else◌, List, [], ◌∷◌, length, slice_get, Option, Some, None}
use Rattle.lx_num.specs.Fewest.{below_zero, magnitude_of}
use Rattle.lx_num.specs.declared.Shape.{Shape}
use Rattle.lx_text.specs.declared.faults.LimitKind.TheVariants as limit
use Rattle.lx_text.specs.declared.faults.Kind.TheVariants as kind
use Rattle.lx_fhdl.specs.Below.{ExprId}
use Rattle.lx_fhdl.specs.declared.exprs.Expr.TheVariants as expr
use Rattle.lx_shaped.specs.Making.{shape_there}
use Rattle.lx_state.specs.declared.values.Value.{Value}
use Rattle.lx_state.specs.declared.values.Value.TheVariants as value
use Rattle.lx_state.specs.Lists.{array_of, int_of, text_made, text_of, values_of}
use Rattle.lx_state.specs.Step.{Step, give, fault, or_fault, ◌>>=◌}
use Rattle.lx_text.specs.Limits.{limit_number}
use Rattle.lx_state.specs.Work.{spend_nodes}
use Rattle.lx_objects.specs.Exprs.{expr_made, put_expr}
use Rattle.lx_ops.specs.Exprs.{expression, exprs_of}

-- the place of an item among n; below 0 it counts from the end, where -1, whose magnitude is 0, is the last one
abbrev pub place_in : ℕ → ℤ → Option ℕ
place_in n z =
    if nat_lt (magnitude_of z) n
    then Some (if below_zero z then n - 1 - magnitude_of z else magnitude_of z)
    else None

-- a bound among n: what lies before the first is 0, and what lies behind the last is n
abbrev pub clamped : ℕ → ℤ → ℕ
clamped n z = if below_zero z then n - 1 - magnitude_of z else min (magnitude_of z) n

abbrev pub bits_there : Option Shape → Option ℕ
bits_there (Some s) = Some s.bits
bits_there None = None

unfoldable pub bits_of : ℕ → ExprId → Step ℕ
bits_of line e m = or_fault (bits_there (shape_there m.shaped e.place)) line kind.WrongKind m

abbrev pub bits_made : ℕ → ExprId → ℕ → ℕ → Step Value
bits_made line e low high = expr_made line 1 (expr.Slice e low high)

-- one bit of an expression
unfoldable pub bit_of : ℕ → ExprId → ℤ → Step Value
bit_of line e n = do
  bits ← bits_of line e
  place ← or_fault (place_in bits n) line kind.BadSlice
  bits_made line e place (place + 1)

abbrev pub item_there : {A : Type 0} → List A → Option ℕ → Option A
item_there xs (Some place) = slice_get xs place
item_there xs None = None

-- the item at a place of a list
abbrev pub item_in : {A : Type 0} → List A → ℤ → Option A
item_in xs n = item_there xs (place_in (length xs) n)

-- one byte of a text, which is a text
unfoldable pub byte_of : ℕ → Value → ℤ → Step Value
byte_of line v n = do
  bytes ← text_of line v
  byte ← or_fault (item_in bytes n) line kind.BadSlice
  text_made line (byte ∷ [])

abbrev pub item_or_fault : ℕ → ℤ → Option (List Value) → Step Value
item_or_fault line n None m = fault line kind.WrongKind m
item_or_fault line n (Some xs) m = or_fault (item_in xs n) line kind.BadSlice m

-- one item of a list, a tuple or an Array
unfoldable pub listed : ℕ → ℕ → ℤ → Step Value
listed line at n m = item_or_fault line n (values_of (slice_get m.lists at)) m

-- by an integer
abbrev pub numbered_item : ℕ → Value → ℤ → Step Value
numbered_item line (value.List at) n m = listed line at n m
numbered_item line (value.Tuple at) n m = listed line at n m
numbered_item line (value.Array at) n m = listed line at n m
numbered_item line (value.Text at) n m = byte_of line (value.Text at) n m
numbered_item line (value.Expr e) n m = bit_of line e n m
numbered_item line _ n m = fault line kind.WrongKind m

-- a read of so many items counts one node and one for each
unfoldable pub items_spent : ℕ → ℕ → Step (Unit {0})
items_spent line items m =
    if nat_lt (limit_number limit.Nodes) items then fault line (kind.Limit limit.Nodes) m else spend_nodes line (1 + items) m

-- an Array by an expression
unfoldable pub picked : ℕ → Value → ExprId → Step Value
picked line v index = do
  values ← array_of line v
  items ← exprs_of line values
  id ← put_expr line (expr.Pick items index)
  _ ← items_spent line (length values)
  give (value.Expr id)

-- `v[i]`
unfoldable pub item_of : ℕ → Value → Value → Step Value
item_of line v (value.Int n) m = numbered_item line v n m
item_of line v (value.Expr e) m = picked line v e m
item_of line v _ m = fault line kind.WrongKind m

-- a bound that may be missing
unfoldable pub bound : ℕ → ℕ → ℕ → Option Value → Step ℕ
bound line missing bits None m = give missing m
bound line missing bits (Some v) m = (int_of line v >>= λ n. give (clamped bits n)) m

-- `v[low:high]`, of expressions alone
unfoldable pub slice_of : ℕ → Value → Option Value → Option Value → Step Value
slice_of line v low high = do
  e ← or_fault (expression v) line kind.WrongKind
  bits ← bits_of line e
  first ← bound line 0 bits low
  past ← bound line bits bits high
  bits_made line e first past
