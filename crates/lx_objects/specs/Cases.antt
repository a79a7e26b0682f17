-- `Case` of FHDL: its keys, and the statements under them.
use Rattle.std.specs.Prelude.{◌≡◌, ℕ, ℤ, suc, Bool, true, false, max, List, [], ◌∷◌, ◌++◌, length, map, codes, slice_get, Option, Some, None, if◌then◌else◌}
use Rattle.std.specs.List.{list_any}
use Rattle.std.specs.Ordering.{int_eq}
use Rattle.std.specs.Str.{bytes_eq}
use Rattle.lx_text.specs.declared.faults.Kind.TheVariants as kind
use Rattle.lx_fhdl.specs.Below.{ExprId}
use Rattle.lx_state.specs.declared.values.Value.{Value}
use Rattle.lx_state.specs.declared.values.Value.TheVariants as value
use Rattle.lx_state.specs.declared.machine.Form.TheVariants as form
use Rattle.lx_state.specs.declared.machine.Leaves.TheVariants as leaves
use Rattle.lx_state.specs.declared.machine.Machine.{Machine}
use Rattle.lx_state.specs.declared.machine.Pair.{Pair}
use Rattle.lx_objects.specs.declared.cases.Cases.{Cases}
use Rattle.lx_state.specs.Lists.{deeper, sizes_of}
use Rattle.lx_state.specs.Step.{Step, give, fault, reads, ◌>>=◌}
use Rattle.lx_state.specs.Work.{spend_nodes}
use Rattle.lx_objects.specs.Statements.{all_of, any_in_state, deepest_made, keep_made, node_sum, only}

-- ---- keys

-- an integer, or none for `"default"`
abbrev pub Key : Type 0
Key = Option ℤ

abbrev pub default_key : Option (List ℕ) → Option Key
default_key None = None
default_key (Some bytes) = if bytes_eq bytes (codes "default") then Some None else None

-- the key that a value is
abbrev pub key_of : Machine → Value → Option Key
key_of m (value.Int n) = Some (Some n)
key_of m (value.Text at) = default_key (slice_get m.texts at)
key_of m _ = None

abbrev pub same_key : Key → Key → Bool
same_key (Some a) (Some b) = int_eq a b
same_key None None = true
same_key _ _ = false

-- the key behind those seen, where it isn't there
abbrev pub with_key : Key → List Key → List Key
with_key key seen = if list_any (same_key key) seen then seen else seen ++ key ∷ []

abbrev pub new_key : ℕ → List Key → Option Key → Step Key
new_key line seen None = fault line kind.BadKey
new_key line seen (Some key) = if list_any (same_key key) seen then fault line kind.BadKey else give key

-- a key that isn't among those seen
unfoldable pub case_key : ℕ → List Key → Value → Step Key
case_key line seen v m = new_key line seen (key_of m v) m

-- a key before its statements
unfoldable pub pair_fits : ℕ → List Key → Pair → Step Key
pair_fits line seen p = do
  key ← case_key line seen p.key
  _ ← only leaves.StateStatements line (p.value ∷ [])
  give key

-- pair by pair
unfoldable pub keys_fit : ℕ → List Key → List Pair → Step (Unit {0})
keys_fit line seen [] = give tt
keys_fit line seen (p ∷ ps) = do
  key ← pair_fits line seen p
  keys_fit line (seen ++ key ∷ []) ps

-- ---- the statements

abbrev pub no_cases : Cases
no_cases = record { arms = []; rest = []; depth = 0 }

abbrev pub deepened : ℕ → Cases → Cases
deepened below cases = record cases { depth = max cases.depth below }

abbrev pub with_case : Option Key → List ℕ → Cases → Cases
with_case (Some (Some n)) body cases = record cases { arms = cases.arms ++ record { key = n; body = body } ∷ [] }
with_case _ body cases = record cases { rest = body }

unfoldable pub add_case : ℕ → Cases → Pair → Step Cases
add_case line cases p = do
  body ← all_of leaves.StateStatements line (p.value ∷ [])
  reads (λ m. with_case (key_of m p.key) body (deepened (deepest_made m body) cases))

unfoldable pub add_cases : ℕ → Cases → List Pair → Step Cases
add_cases line cases [] = give cases
add_cases line cases (p ∷ ps) = do
  more ← add_case line cases p
  add_cases line more ps

abbrev pub pair_value : Pair → Value
pair_value p = p.value

-- A `Case` counts itself, its keys and its statements, and is a level above the deepest of these.
unfoldable pub case_made : ℕ → ExprId → List Pair → Step Value
case_made line on pairs = do
  _ ← keys_fit line [] pairs
  below ← reads (λ m. sizes_of m (map pair_value pairs))
  size ← node_sum line below (suc (length pairs))
  _ ← spend_nodes line size
  cases ← add_cases line no_cases pairs
  depth ← deeper line cases.depth
  in_state ← reads (λ m. any_in_state m (map pair_value pairs))
  keep_made (record { form = form.Case on cases.arms cases.rest; line = line; size = size; depth = depth; in_state = in_state })
