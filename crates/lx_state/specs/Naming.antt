-- Objects, and the names that bindings give them: an object's first binding to an attribute, and its first one to a local name.
use Rattle.std.specs.Prelude.{◌≡◌, ℕ, zero, suc, Bool, true, false, ◌+◌, List, [], ◌∷◌, ◌++◌, length, codes, slice_get, slice_set, Option, Some, None, if◌then◌else◌}
use Rattle.std.specs.Fmt.{decimal}
use Rattle.lx_fhdl.specs.declared.exprs.Expr.{Expr}
use Rattle.lx_fhdl.specs.declared.exprs.Expr.TheVariants as expr
use Rattle.lx_state.specs.declared.values.Value.{Value}
use Rattle.lx_state.specs.declared.values.Value.TheVariants as value
use Rattle.lx_state.specs.declared.machine.Binding.{Binding}
use Rattle.lx_state.specs.declared.machine.Binding.TheVariants as binding
use Rattle.lx_state.specs.declared.machine.Items.{Items}
use Rattle.lx_state.specs.declared.machine.Machine.{Machine}
use Rattle.lx_state.specs.declared.machine.Object.{Object}
use Rattle.lx_state.specs.declared.machine.Owner.{Owner}
use Rattle.lx_state.specs.declared.machine.What.{What}
use Rattle.lx_state.specs.Changes.{changed}
use Rattle.lx_state.specs.Step.{Step, give, ◌>>=◌}

-- ---- objects

unfoldable pub object_made : What → ℕ → Option (List ℕ) → Step ℕ
object_made what line given m = give (length m.objects) (record m { objects = m.objects ++ record { what = what; line = line; maker = m.frame.this; given = given; by_attribute = None; by_local = None; home = None } ∷ [] })

abbrev pub turned : What → Object → Object
turned what o = record o { what = what }

-- an object is something else from now on
unfoldable pub turn_object : What → ℕ → Step (Unit {0})
turn_object what at m = give tt (record m { objects = changed m.objects at (turned what) })

-- the first name counts
abbrev pub first_name : Option (List ℕ) → List ℕ → Option (List ℕ)
first_name (Some old) name = Some old
first_name None name = Some name

abbrev pub named_by : Binding → List ℕ → Object → Object
named_by binding.Nowhere name o = o
named_by binding.Local name o = record o { by_local = first_name o.by_local name }
named_by binding.Attribute name o = record o { by_attribute = first_name o.by_attribute name }

-- the first module counts
abbrev pub first_home : Option ℕ → ℕ → Option ℕ
first_home (Some old) home = Some old
first_home None home = Some home

abbrev pub settled : ℕ → Object → Object
settled home o = record o { home = first_home o.home home }

-- an object is bound by an attribute of this module itself
unfoldable pub settle_object : ℕ → ℕ → Step (Unit {0})
settle_object home at m = give tt (record m { objects = changed m.objects at (settled home) })

unfoldable pub name_object : Binding → List ℕ → ℕ → Step (Unit {0})
name_object by name at m = give tt (record m { objects = changed m.objects at (named_by by name) })

-- a part of an object has no name of its own
abbrev pub own_signal : Option Owner → Option ℕ
own_signal None = None
own_signal (Some o) = elim o.part as (λ _. Option ℕ) [ None ↦ Some o.object | Some part ↦ None ]

abbrev pub signal_object : Machine → Option Expr → Option ℕ
signal_object m (Some (expr.Sig x)) = own_signal (slice_get m.owners x.0)
signal_object m _ = None

abbrev pub name_some : Binding → List ℕ → Option ℕ → Step (Unit {0})
name_some by name None m = give tt m
name_some by name (Some at) m = name_object by name at m

-- ---- lists

-- `<name>_<i>`
abbrev pub item_name : List ℕ → ℕ → List ℕ
item_name name i = name ++ codes "_" ++ decimal i

-- an attribute's name goes before a local one
abbrev pub is_later : Binding → Binding → Bool
is_later binding.Local binding.Nowhere = true
is_later binding.Attribute binding.Nowhere = true
is_later binding.Attribute binding.Local = true
is_later _ _ = false

abbrev pub marked : Binding → Items → Items
marked by items = record items { named = by }

unfoldable pub mark : Binding → ℕ → Step (Unit {0})
mark by at m = give tt (record m { lists = changed m.lists at (marked by) })

-- the i-th item is bound to `<name>_<i>`
unfoldable pub bind_items : (List ℕ → Value → Step (Unit {0})) → List ℕ → ℕ → List Value → Step (Unit {0})
bind_items bind name i [] = give tt
bind_items bind name i (v ∷ vs) = do
  _ ← bind (item_name name i) v
  bind_items bind name (i + 1) vs

-- the items of a list that has not yet named them by such a binding
abbrev pub unnamed : Binding → Option Items → Option (List Value)
unnamed by None = None
unnamed by (Some items) = if is_later by items.named then Some items.values else None

abbrev pub bind_some : (List ℕ → Value → Step (Unit {0})) → Binding → List ℕ → ℕ → Option (List Value) → Step (Unit {0})
bind_some bind by name at None = give tt
bind_some bind by name at (Some values) = do
  _ ← mark by at
  bind_items bind name 0 values

-- a list names its items by its first binding to a local name, and by its first one to an attribute
unfoldable pub bind_list : (List ℕ → Value → Step (Unit {0})) → Binding → List ℕ → ℕ → Step (Unit {0})
bind_list bind by name at m = bind_some bind by name at (unnamed by (slice_get m.lists at)) m

unfoldable pub bind_value : (List ℕ → ℕ → Step (Unit {0})) → Binding → List ℕ → Value → Step (Unit {0})
bind_value lists by name (value.List at) m = lists name at m
bind_value lists by name (value.Object at) m = name_object by name at m
bind_value lists by name (value.Expr id) m = name_some by name (signal_object m (slice_get m.shaped.exprs id.place)) m
bind_value lists by name _ m = give tt m

-- a value is bound to a name, and what hangs in it within so many levels of lists
unfoldable pub bind_within : ℕ → Binding → List ℕ → Value → Step (Unit {0})
bind_within zero by = bind_value (λ name at. give tt) by
bind_within (suc levels) by = bind_value (bind_list (bind_within levels by) by) by

-- no list has more levels
unfoldable pub bind_name : Binding → List ℕ → Value → Step (Unit {0})
bind_name by name v = bind_within 64 by name v
