-- Texts, lists, tuples, Arrays and dictionaries, which never change.
use Rattle.std.specs.Prelude.{◌≡◌, ℕ, ℤ, suc, ◌+◌, min, max, nat_lt, if◌then◌else◌, List, [], ◌∷◌, ◌++◌, length, slice_get, Option, Some, None, option_map}
use Rattle.lx_text.specs.declared.faults.LimitKind.TheVariants as limit
use Rattle.lx_text.specs.declared.faults.Kind.TheVariants as kind
use Rattle.lx_text.specs.Limits.{limit_number}
use Rattle.lx_state.specs.declared.values.Value.{Value}
use Rattle.lx_state.specs.declared.values.Value.TheVariants as value
use Rattle.lx_state.specs.declared.machine.Binding.TheVariants as binding
use Rattle.lx_state.specs.declared.machine.Items.{Items}
use Rattle.lx_state.specs.declared.machine.Leaves.{Leaves}
use Rattle.lx_state.specs.declared.machine.Leaves.TheVariants as leaves
use Rattle.lx_state.specs.declared.machine.Machine.{Machine}
use Rattle.lx_state.specs.declared.machine.Made.{Made}
use Rattle.lx_state.specs.declared.machine.Object.{Object}
use Rattle.lx_state.specs.declared.machine.Pair.{Pair}
use Rattle.lx_state.specs.declared.machine.What.{What}
use Rattle.lx_state.specs.declared.machine.What.TheVariants as what
use Rattle.lx_state.specs.Step.{Step, give, fault, or_fault, reads, ◌>>=◌}
use Rattle.lx_state.specs.Work.{spend, within}

-- ---- what is noted beside items

abbrev pub some_depth : Option Items → ℕ
some_depth (Some i) = i.depth
some_depth None = 0

-- the levels of lists and tuples
abbrev pub depth_of : Machine → Value → ℕ
depth_of m (value.List at) = some_depth (slice_get m.lists at)
depth_of m (value.Tuple at) = some_depth (slice_get m.lists at)
depth_of m _ = 0

abbrev pub deepest : Machine → List Value → ℕ
deepest m [] = 0
deepest m (v ∷ vs) = max (depth_of m v) (deepest m vs)

abbrev pub some_leaves : Option Items → Leaves
some_leaves (Some i) = i.leaves
some_leaves None = leaves.Others

abbrev pub leaf_of_what : What → Leaves
leaf_of_what (what.Signal x) = leaves.Others
leaf_of_what (what.Module at) = leaves.Modules
leaf_of_what (what.ClockDomain d) = leaves.ClockDomains
leaf_of_what what.MultiReg = leaves.Specials
-- an FSM is added as a module is
leaf_of_what (what.Fsm k) = leaves.Modules
leaf_of_what (what.Memory k) = leaves.Specials
leaf_of_what (what.Port j) = leaves.Specials
leaf_of_what (what.Manager k) = leaves.Modules
leaf_of_what _ = leaves.Others

abbrev pub leaf_of : Option Object → Leaves
leaf_of None = leaves.Others
leaf_of (Some o) = leaf_of_what o.what

-- a statement with `NextState` or `NextValue` in it stands in a state alone
abbrev pub made_leaves : Option Made → Leaves
made_leaves None = leaves.Others
made_leaves (Some s) = if s.in_state then leaves.StateStatements else leaves.Statements

-- what hangs in a value; a value that is no list hangs there itself
abbrev pub leaves_of : Machine → Value → Leaves
leaves_of m (value.List at) = some_leaves (slice_get m.lists at)
leaves_of m (value.Tuple at) = some_leaves (slice_get m.lists at)
leaves_of m (value.Made at) = made_leaves (slice_get m.made at)
leaves_of m (value.Object at) = leaf_of (slice_get m.objects at)
leaves_of m _ = leaves.Others

abbrev pub joined : Leaves → Leaves → Leaves
joined leaves.Nothing b = b
joined a leaves.Nothing = a
joined leaves.Statements leaves.Statements = leaves.Statements
joined leaves.Statements leaves.StateStatements = leaves.StateStatements
joined leaves.StateStatements leaves.Statements = leaves.StateStatements
joined leaves.StateStatements leaves.StateStatements = leaves.StateStatements
joined leaves.Modules leaves.Modules = leaves.Modules
joined leaves.ClockDomains leaves.ClockDomains = leaves.ClockDomains
joined leaves.Specials leaves.Specials = leaves.Specials
joined _ _ = leaves.Others

abbrev pub all_leaves : Machine → List Value → Leaves
all_leaves m [] = leaves.Nothing
all_leaves m (v ∷ vs) = joined (leaves_of m v) (all_leaves m vs)

abbrev pub some_size : Option Items → ℕ
some_size (Some i) = i.size
some_size None = 0

abbrev pub made_size : Option Made → ℕ
made_size (Some s) = s.size
made_size None = 0

-- the nodes of the statements that hang in a value
abbrev pub size_of : Machine → Value → ℕ
size_of m (value.List at) = some_size (slice_get m.lists at)
size_of m (value.Tuple at) = some_size (slice_get m.lists at)
size_of m (value.Made at) = made_size (slice_get m.made at)
size_of m _ = 0

abbrev pub total_size : Machine → List Value → ℕ
total_size m [] = 0
total_size m (v ∷ vs) = size_of m v + total_size m vs

-- counted as far as one past the limit
abbrev pub sizes_of : Machine → List Value → ℕ
sizes_of m vs = min (suc (limit_number limit.Nodes)) (total_size m vs)

-- ---- what is made

-- one level more
unfoldable pub deeper : ℕ → ℕ → Step ℕ
deeper line depth m = if nat_lt depth (limit_number limit.Depth) then give (depth + 1) m else fault line (kind.Limit limit.Depth) m

-- items at a place of their own
unfoldable pub keep_items : List Value → ℕ → Step ℕ
keep_items values depth m = give (length m.lists) (record m { lists = m.lists ++ record { values = values; depth = depth; leaves = all_leaves m values; size = sizes_of m values; named = binding.Nowhere } ∷ [] })

unfoldable pub items_made : ℕ → List Value → Step ℕ
items_made line values = do
  _ ← spend line (length values)
  below ← reads (λ m. deepest m values)
  depth ← deeper line below
  keep_items values depth

unfoldable pub list_made : ℕ → List Value → Step Value
list_made line values = do
  place ← items_made line values
  give (value.List place)

unfoldable pub tuple_made : ℕ → List Value → Step Value
tuple_made line values = do
  place ← items_made line values
  give (value.Tuple place)

unfoldable pub array_made : ℕ → List Value → Step Value
array_made line values = do
  _ ← within line limit.Items (length values)
  place ← keep_items values 0
  give (value.Array place)

unfoldable pub text_made : ℕ → List ℕ → Step Value
text_made line bytes = do
  _ ← spend line (length bytes)
  λ m. give (value.Text (length m.texts)) (record m { texts = m.texts ++ bytes ∷ [] })

unfoldable pub dictionary_made : List Pair → Step Value
dictionary_made pairs m = give (value.Dictionary (length m.dictionaries)) (record m { dictionaries = m.dictionaries ++ pairs ∷ [] })

-- ---- what is read

abbrev pub text_at : Machine → Value → Option (List ℕ)
text_at m (value.Text at) = slice_get m.texts at
text_at m _ = None

unfoldable pub text_of : ℕ → Value → Step (List ℕ)
text_of line v m = or_fault (text_at m v) line kind.WrongKind m

abbrev pub values_of : Option Items → Option (List Value)
values_of (Some i) = Some i.values
values_of None = None

-- of a list alone
abbrev pub list_at : Machine → Value → Option (List Value)
list_at m (value.List at) = values_of (slice_get m.lists at)
list_at m _ = None

unfoldable pub list_of : ℕ → Value → Step (List Value)
list_of line v m = or_fault (list_at m v) line kind.WrongKind m

-- of a list or a tuple
abbrev pub items_at : Machine → Value → Option (List Value)
items_at m (value.List at) = values_of (slice_get m.lists at)
items_at m (value.Tuple at) = values_of (slice_get m.lists at)
items_at m _ = None

unfoldable pub items_of : ℕ → Value → Step (List Value)
items_of line v m = or_fault (items_at m v) line kind.WrongKind m

-- of an Array
abbrev pub array_at : Machine → Value → Option (List Value)
array_at m (value.Array at) = values_of (slice_get m.lists at)
array_at m _ = None

unfoldable pub array_of : ℕ → Value → Step (List Value)
array_of line v m = or_fault (array_at m v) line kind.WrongKind m

abbrev pub pairs_at : Machine → Value → Option (List Pair)
pairs_at m (value.Dictionary at) = slice_get m.dictionaries at
pairs_at m _ = None

unfoldable pub pairs_of : ℕ → Value → Step (List Pair)
pairs_of line v m = or_fault (pairs_at m v) line kind.WrongKind m

abbrev pub integer : Value → Option ℤ
integer (value.Int n) = Some n
integer _ = None

unfoldable pub int_of : ℕ → Value → Step ℤ
int_of line v = or_fault (integer v) line kind.WrongKind

-- all are integers
unfoldable pub ints_of : ℕ → List Value → Step (List ℤ)
ints_of line [] = give []
ints_of line (v ∷ vs) = do
  n ← int_of line v
  ns ← ints_of line vs
  give (n ∷ ns)
