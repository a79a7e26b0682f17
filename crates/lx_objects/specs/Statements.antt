-- Statements of FHDL as a description makes them, and what hangs in lists.
use Rattle.std.specs.Prelude.{◌≡◌, ℕ, zero, suc, Bool, true, false, ◌||◌, ◌+◌, max, nat_lt, List, [], ◌∷◌, ◌++◌, length, slice_get, Option, Some, None, Result, Ok, Err, if◌then◌else◌}
use Rattle.lx_text.specs.declared.faults.LimitKind.TheVariants as limit
use Rattle.lx_text.specs.declared.faults.Kind.TheVariants as kind
use Rattle.lx_text.specs.declared.faults.Fault.{Fault}
use Rattle.lx_text.specs.declared.faults.Refusal.{Refusal}
use Rattle.lx_text.specs.declared.faults.Refusal.TheVariants as refusal
use Rattle.lx_text.specs.Limits.{limit_number}
use Rattle.lx_fhdl.specs.Below.{ExprId, TargetId}
use Rattle.lx_state.specs.declared.values.Value.{Value}
use Rattle.lx_state.specs.declared.values.Value.TheVariants as value
use Rattle.lx_state.specs.declared.machine.Form.{Form}
use Rattle.lx_state.specs.declared.machine.Form.TheVariants as form
use Rattle.lx_state.specs.declared.machine.Items.{Items}
use Rattle.lx_state.specs.declared.machine.Leaves.{Leaves}
use Rattle.lx_state.specs.declared.machine.Leaves.TheVariants as leaves
use Rattle.lx_state.specs.declared.machine.Machine.{Machine}
use Rattle.lx_state.specs.declared.machine.Made.{Made}
use Rattle.lx_objects.specs.declared.statements.Body.{Body}
use Rattle.lx_objects.specs.declared.statements.Outline.{Outline}
use Rattle.lx_state.specs.Lists.{all_leaves, deeper, sizes_of}
use Rattle.lx_state.specs.Step.{Step, give, fault, or_fault, reads, ◌>>=◌}
use Rattle.lx_state.specs.Work.{spend_nodes, within}

-- ---- what hangs in values

-- nothing, or things of this kind alone
abbrev pub are_all : Leaves → Leaves → Bool
are_all leaves.Statements leaves.Nothing = true
are_all leaves.Statements leaves.Statements = true
are_all leaves.StateStatements leaves.Nothing = true
are_all leaves.StateStatements leaves.Statements = true
are_all leaves.StateStatements leaves.StateStatements = true
are_all leaves.Modules leaves.Nothing = true
are_all leaves.Modules leaves.Modules = true
are_all leaves.ClockDomains leaves.Nothing = true
are_all leaves.ClockDomains leaves.ClockDomains = true
are_all leaves.Specials leaves.Nothing = true
are_all leaves.Specials leaves.Specials = true
are_all _ _ = false

-- the place of a statement, or of an object
abbrev pub leaf_place : Leaves → Value → Option ℕ
leaf_place leaves.Statements (value.Made at) = Some at
leaf_place leaves.StateStatements (value.Made at) = Some at
leaf_place leaves.Modules (value.Object at) = Some at
leaf_place _ _ = None

abbrev pub is_nothing : Leaves → Bool
is_nothing leaves.Nothing = true
is_nothing _ = false

abbrev pub Found : Type 0
Found = Result (List ℕ) Fault

abbrev pub wrong : ℕ → Found
wrong line = Err (record { line = line; kind = kind.WrongKind })

abbrev pub both : Found → Found → Found
both (Err f) _ = Err f
both (Ok xs) (Err f) = Err f
both (Ok xs) (Ok ys) = Ok (xs ++ ys)

abbrev pub single : ℕ → Option ℕ → Found
single line (Some at) = Ok (at ∷ [])
single line None = wrong line

-- of some values, in their order
unfoldable pub all_hanging : (Value → Found) → List Value → Found
all_hanging f [] = Ok []
all_hanging f (v ∷ vs) = both (f v) (all_hanging f vs)

-- a list in which nothing hangs isn't gone through
abbrev pub items_hanging : ℕ → (Value → Found) → Option Items → Found
items_hanging line f None = wrong line
items_hanging line f (Some i) = if is_nothing i.leaves then Ok [] else all_hanging f i.values

abbrev pub value_hanging : ℕ → Leaves → (ℕ → Found) → Value → Found
value_hanging line what g (value.List at) = g at
value_hanging line what g (value.Tuple at) = g at
value_hanging line what g v = single line (leaf_place what v)

-- what hangs in a list within so many levels of lists and tuples, where it is of this kind alone
unfoldable pub list_hanging : ℕ → Leaves → List Items → ℕ → ℕ → Found
list_hanging line what lists zero at = wrong line
list_hanging line what lists (suc levels) at = items_hanging line (value_hanging line what (list_hanging line what lists levels)) (slice_get lists at)

abbrev pub hanging : ℕ → Leaves → List Items → ℕ → Value → Found
hanging line what lists levels v = value_hanging line what (list_hanging line what lists levels) v

-- behind what stands already
abbrev pub behind : List ℕ → Found → Found
behind old (Err f) = Err f
behind old (Ok xs) = Ok (old ++ xs)

-- want of memory aside, the places are added behind those that stand already, or it is the first fault
abbrev pub Gathers : Result (Unit {0}) Refusal → List ℕ → List ℕ → Found → Type 0
Gathers (Ok u) old new found = behind old found ≡ Ok new
Gathers (Err (refusal.Fault f)) old new found = found ≡ Err f
Gathers (Err refusal.NoMemory) old new found = Unit {0}

abbrev pub found_or : Found → Step (List ℕ)
found_or (Ok xs) m = give xs m
found_or (Err f) m = Err f

-- no list has more levels
unfoldable pub all_of : Leaves → ℕ → List Value → Step (List ℕ)
all_of what line values m = found_or (all_hanging (hanging line what m.lists 64) values) m

-- only things of this kind
unfoldable pub only : Leaves → ℕ → List Value → Step (Unit {0})
only what line values m = if are_all what (all_leaves m values) then give tt m else fault line kind.WrongKind m

-- ---- statements

-- a number of nodes, which by itself doesn't pass the limit
unfoldable pub node_sum : ℕ → ℕ → ℕ → Step ℕ
node_sum line a b m = if nat_lt (limit_number limit.Nodes) (a + b) then fault line (kind.Limit limit.Nodes) m else give (a + b) m

-- the statements of a kind in values, which count their nodes and some more
unfoldable pub statements_of : Leaves → ℕ → ℕ → List Value → Step (List ℕ × ℕ)
statements_of what line own values = do
  _ ← only what line values
  size ← reads (λ m. sizes_of m values)
  total ← node_sum line own size
  _ ← spend_nodes line total
  made ← all_of what line values
  give (made, total)

abbrev pub made_depth : Option Made → ℕ
made_depth (Some s) = s.depth
made_depth None = 0

abbrev pub deepest_made : Machine → List ℕ → ℕ
deepest_made m [] = 0
deepest_made m (at ∷ ats) = max (made_depth (slice_get m.made at)) (deepest_made m ats)

abbrev pub is_in_state : Leaves → Bool
is_in_state leaves.StateStatements = true
is_in_state _ = false

-- whether one of the statements in values stands in a state of an FSM alone
abbrev pub any_in_state : Machine → List Value → Bool
any_in_state m values = is_in_state (all_leaves m values)

-- the body of an `If` or an `Else`
unfoldable pub body_made : ℕ → ℕ → List Value → Step Body
body_made line own values = do
  found ← statements_of leaves.StateStatements line own values
  below ← reads (λ m. deepest_made m found.0)
  depth ← deeper line below
  in_state ← reads (λ m. any_in_state m values)
  give (record { made = found.0; size = found.1; depth = depth; in_state = in_state })

unfoldable pub keep_made : Made → Step Value
keep_made s m = give (value.Made (length m.made)) (record m { made = m.made ++ s ∷ [] })

-- what assigns: a node and one for each target inside its target, a level and one for each around a target
unfoldable pub keep_assigning : ℕ → Form → Bool → ℕ → ℕ → Step Value
keep_assigning line form_ in_state inside levels = do
  size ← node_sum line 1 inside
  _ ← spend_nodes line size
  depth ← deeper line levels
  keep_made (record { form = form_; line = line; size = size; depth = depth; in_state = in_state })

-- an assignment
unfoldable pub assign_made : ℕ → TargetId → ExprId → ℕ → ℕ → Step Value
assign_made line target source inside levels = keep_assigning line (form.Assign target source) false inside levels

-- `NextValue`, which counts as an assignment does
unfoldable pub next_value_made : ℕ → TargetId → ExprId → ℕ → ℕ → Step Value
next_value_made line target source inside levels = keep_assigning line (form.NextValue target source) true inside levels

-- `NextState` of the name at a place among the texts
unfoldable pub next_state_made : ℕ → ℕ → Step Value
next_state_made line name = do
  _ ← spend_nodes line 1
  keep_made (record { form = form.NextState name; line = line; size = 1; depth = 1; in_state = true })

unfoldable pub if_made : ℕ → ExprId → List Value → Step Value
if_made line condition values = do
  body ← body_made line 1 values
  keep_made (record { form = form.If None condition body.made; line = line; size = body.size; depth = body.depth; in_state = body.in_state })

abbrev pub outline : Option Made → Option Outline
outline (Some s) = Some (record { line = s.line; size = s.size; depth = s.depth; in_state = s.in_state })
outline None = None

abbrev pub outline_of : ℕ → ℕ → Step Outline
outline_of line at m = or_fault (outline (slice_get m.made at)) line kind.WrongKind m

-- a further branch, on the line of the first one; the statement before stays as it is
unfoldable pub elif_made : ℕ → ℕ → ExprId → List Value → Step Value
elif_made line before condition values = do
  first ← outline_of line before
  body ← body_made line 0 values
  size ← node_sum line first.size body.size
  keep_made (record { form = form.If (Some before) condition body.made; line = first.line; size = size; depth = max first.depth body.depth; in_state = first.in_state || body.in_state })

unfoldable pub else_made : ℕ → ℕ → List Value → Step Value
else_made line before values = do
  first ← outline_of line before
  body ← body_made line 0 values
  size ← node_sum line first.size body.size
  keep_made (record { form = form.Else before body.made; line = first.line; size = size; depth = max first.depth body.depth; in_state = first.in_state || body.in_state })
