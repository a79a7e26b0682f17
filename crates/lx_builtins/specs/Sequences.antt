-- Built-in names on lists, tuples and texts.
use Rattle.std.specs.Prelude.{ℕ, pos, ◌+◌, List, [], ◌∷◌, length, reverse, Option, None, option_map, codes}
use Rattle.lx_text.specs.declared.faults.Kind.TheVariants as kind
use Rattle.lx_shaped.specs.Making.{shape_there}
use Rattle.lx_state.specs.declared.machine.Machine.{Machine}
use Rattle.lx_state.specs.declared.values.Value.{Value}
use Rattle.lx_state.specs.declared.values.Value.TheVariants as value
use Rattle.lx_state.specs.Lists.{array_at, items_at, items_of, list_made, text_at, tuple_made}
use Rattle.lx_state.specs.Step.{Step, give, or_fault, ◌>>=◌}
use Rattle.lx_ops.specs.Items.{bits_there}
use Rattle.lx_builtins.specs.Arguments.{one, two}
use Rattle.lx_builtins.specs.declared.arguments.Arguments.{Arguments}

-- the items of a list, a tuple or an Array, the bytes of a text, the bits of an expression
abbrev pub count_of : Machine → Value → Option ℕ
count_of m (value.Text at) = option_map length (text_at m (value.Text at))
count_of m (value.List at) = option_map length (items_at m (value.List at))
count_of m (value.Tuple at) = option_map length (items_at m (value.Tuple at))
count_of m (value.Array at) = option_map length (array_at m (value.Array at))
count_of m (value.Expr id) = bits_there (shape_there m.shaped id.place)
count_of m _ = None

unfoldable pub counted : ℕ → Value → Step Value
counted line v m = or_fault (option_map (λ n. value.Int (pos n)) (count_of m v)) line kind.WrongKind m

-- `len(x)`
unfoldable pub len_called : ℕ → Arguments → Step Value
len_called line args = do
  v ← one line (codes "x") args
  counted line v

-- `list(l)`
unfoldable pub list_called : ℕ → Arguments → Step Value
list_called line args = do
  v ← one line (codes "l") args
  items ← items_of line v
  list_made line items

-- `reversed(l)`
unfoldable pub reversed_called : ℕ → Arguments → Step Value
reversed_called line args = do
  v ← one line (codes "l") args
  items ← items_of line v
  list_made line (reverse items)

unfoldable pub pair_made : ℕ → Value → Value → Step Value
pair_made line a b = tuple_made line (a ∷ b ∷ [])

-- each item behind its place, which is counted from i
unfoldable pub numbered_pairs : ℕ → ℕ → List Value → Step (List Value)
numbered_pairs line i [] = give []
numbered_pairs line i (v ∷ vs) = do
  pair ← pair_made line (value.Int (pos i)) v
  pairs ← numbered_pairs line (i + 1) vs
  give (pair ∷ pairs)

-- `enumerate(l)`
unfoldable pub enumerate_called : ℕ → Arguments → Step Value
enumerate_called line args = do
  v ← one line (codes "l") args
  items ← items_of line v
  pairs ← numbered_pairs line 0 items
  list_made line pairs

-- the items of two lists side by side, as far as the shorter one goes
unfoldable pub joint_pairs : ℕ → List Value → List Value → Step (List Value)
joint_pairs line [] ys = give []
joint_pairs line (x ∷ xs) [] = give []
joint_pairs line (x ∷ xs) (y ∷ ys) = do
  pair ← pair_made line x y
  pairs ← joint_pairs line xs ys
  give (pair ∷ pairs)

-- `zip(l, m)`
unfoldable pub zip_called : ℕ → Arguments → Step Value
zip_called line args = do
  both ← two line (codes "l") (codes "m") args
  first ← items_of line both.0
  second ← items_of line both.1
  pairs ← joint_pairs line first second
  list_made line pairs
