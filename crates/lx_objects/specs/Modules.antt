-- Modules: their attributes, and what is added to them.
use Rattle.std.specs.Prelude.{◌≡◌, ℕ, zero, suc, Bool, true, false, ◌+◌, ◌-◌, nat_lt, List, [], ◌∷◌, ◌++◌, length, map, slice_get, Option, Some, None, if◌then◌else◌}
use Rattle.lx_text.specs.declared.faults.LimitKind.TheVariants as limit
use Rattle.lx_text.specs.declared.faults.Kind.TheVariants as kind
use Rattle.lx_names.specs.Tables.{look_up, with_name}
use Rattle.lx_state.specs.declared.values.Value.{Value}
use Rattle.lx_state.specs.declared.values.Value.TheVariants as value
use Rattle.lx_state.specs.declared.machine.Binding.TheVariants as binding
use Rattle.lx_state.specs.declared.machine.Fsm.{Fsm}
use Rattle.lx_state.specs.declared.machine.Leaves.TheVariants as leaves
use Rattle.lx_state.specs.declared.machine.Machine.{Machine}
use Rattle.lx_state.specs.declared.machine.ManagerState.{ManagerState}
use Rattle.lx_state.specs.declared.machine.Module.{Module}
use Rattle.lx_state.specs.declared.machine.ModuleKind.{ModuleKind}
use Rattle.lx_state.specs.declared.machine.ModuleKind.TheVariants as bases
use Rattle.lx_state.specs.declared.machine.Object.{Object}
use Rattle.lx_state.specs.declared.machine.SyncItem.{SyncItem}
use Rattle.lx_state.specs.declared.machine.What.{What}
use Rattle.lx_state.specs.declared.machine.What.TheVariants as what
use Rattle.lx_state.specs.Naming.{bind_name, object_made, settle_object}
use Rattle.lx_objects.specs.Domains.{declare_bound, mention}
use Rattle.lx_objects.specs.Statements.{all_of, only, statements_of}
use Rattle.lx_state.specs.Changes.{changed}
use Rattle.lx_state.specs.Step.{Step, give, fault, or_fault, ◌>>=◌}
use Rattle.lx_state.specs.Work.{name_fits, one_more}

-- ---- modules

abbrev pub new_module : ℕ → ℕ → ModuleKind → Module
new_module object class kind_ = record { object = object; class = class; kind = kind_; attributes = []; bound = []; comb = []; sync = []; submodules = []; added = None; room = 63 }

unfoldable pub keep_module : ℕ → ℕ → ModuleKind → Step ℕ
keep_module object class kind_ m = give (length m.modules) (record m { modules = m.modules ++ new_module object class kind_ ∷ [] })

-- what stands among the modules for an FSM or an event manager counts as none of them
abbrev pub module_count : Machine → ℕ
module_count m = length m.modules - (length m.fsms + length m.managers)

-- a module, without attributes, with nothing added
unfoldable pub module_made : ℕ → ℕ → ModuleKind → Step ℕ
module_made line class kind_ m = (do
  _ ← one_more line limit.Modules (module_count m)
  object ← object_made (what.Module (length m.modules)) line None
  keep_module object class kind_) m

-- the module at a place is changed
unfoldable pub change_module : ℕ → (Module → Module) → Step (Unit {0})
change_module at f m = give tt (record m { modules = changed m.modules at f })

-- ---- attributes

abbrev pub some_attribute : List ℕ → Option Module → Option Value
some_attribute name None = None
some_attribute name (Some x) = look_up x.attributes name

unfoldable pub attribute : ℕ → ℕ → List ℕ → Step Value
attribute line at name m = or_fault (some_attribute name (slice_get m.modules at)) line (kind.UnknownName name) m

-- the object that a value is
abbrev pub object_of : Value → List ℕ
object_of (value.Object at) = at ∷ []
object_of _ = []

abbrev pub with_attribute : List ℕ → Value → Module → Module
with_attribute name v x = record x { attributes = with_name x.attributes name v; bound = x.bound ++ object_of v }

-- ---- submodules

abbrev pub module_of_what : What → Option ℕ
module_of_what (what.Module at) = Some at
module_of_what _ = None

abbrev pub module_of_object : Option Object → Option ℕ
module_of_object None = None
module_of_object (Some o) = module_of_what o.what

-- the module that a value is
abbrev pub module_of : Machine → Value → Option ℕ
module_of m (value.Object at) = module_of_object (slice_get m.objects at)
module_of m _ = None

abbrev pub module_of_fsm : Option Fsm → Option ℕ
module_of_fsm None = None
module_of_fsm (Some f) = Some f.«module»

abbrev pub module_of_manager : Option ManagerState → Option ℕ
module_of_manager None = None
module_of_manager (Some x) = Some x.«module»

abbrev pub added_of_what : Machine → What → Option ℕ
added_of_what m (what.Module at) = Some at
added_of_what m (what.Fsm k) = module_of_fsm (slice_get m.fsms k)
added_of_what m (what.Manager k) = module_of_manager (slice_get m.managers k)
added_of_what m _ = None

abbrev pub added_of_object : Machine → Option Object → Option ℕ
added_of_object m None = None
added_of_object m (Some o) = added_of_what m o.what

-- the module that is added where a value is: itself, or what stands for an FSM or an event manager
abbrev pub added_of : Machine → Value → Option ℕ
added_of m (value.Object at) = added_of_object m (slice_get m.objects at)
added_of m _ = None

abbrev pub with_room : ℕ → Module → Module
with_room room x = record x { room = room }

abbrev pub above : Option Module → Option (ℕ × Option ℕ)
above None = None
above (Some x) = Some (x.room, x.added)

abbrev pub rise_on : (ℕ → Step (Unit {0})) → Option ℕ → Step (Unit {0})
rise_on on None = give tt
rise_on on (Some at) = on at

abbrev pub rise_some : (ℕ → Step (Unit {0})) → ℕ → ℕ → Option (ℕ × Option ℕ) → Step (Unit {0})
rise_some on left at None = give tt
rise_some on left at (Some x) = if nat_lt left x.0 then (change_module at (with_room left) >>= λ _. rise_on on x.1) else give tt

-- above a chain of modules so many may still stand, the one at the place first
unfoldable pub rise : ℕ → ℕ → ℕ → Step (Unit {0})
rise line zero at m = fault line (kind.Limit limit.Depth) m
rise line (suc left) at m = rise_some (rise line left) left at (above (slice_get m.modules at)) m

abbrev pub is_added : Option Module → Bool
is_added None = true
is_added (Some x) = elim x.added as (λ _. Bool) [ None ↦ false | Some above ↦ true ]

abbrev pub room_of : Option Module → ℕ
room_of None = 0
room_of (Some x) = x.room

abbrev pub with_submodule : ℕ → Bool → Module → Module
with_submodule at named x = record x { submodules = x.submodules ++ record { place = at; named = named } ∷ [] }

abbrev pub added_to : ℕ → Module → Module
added_to to x = record x { added = Some to }

-- a module is added to another, once; no chain of modules is longer than the limit
unfoldable pub add_module : ℕ → ℕ → Bool → ℕ → Step (Unit {0})
add_module line to named at m = if is_added (slice_get m.modules at)
    then fault line kind.WrongKind m
    else (do
      _ ← change_module at (added_to to)
      _ ← rise line (room_of (slice_get m.modules at)) to
      change_module to (with_submodule at named)) m

abbrev pub add_some : ℕ → ℕ → Bool → Option ℕ → Step (Unit {0})
add_some line to named None = give tt
add_some line to named (Some at) = add_module line to named at

-- an object, where it is a module, an FSM or an event manager
unfoldable pub add_object : ℕ → ℕ → Bool → ℕ → Step (Unit {0})
add_object line to named object m = add_some line to named (added_of_object m (slice_get m.objects object)) m

unfoldable pub add_objects : ℕ → ℕ → List ℕ → Step (Unit {0})
add_objects line to [] = give tt
add_objects line to (object ∷ objects) = do
  _ ← add_object line to false object
  add_objects line to objects

-- `self.submodules += v`
unfoldable pub add_modules : ℕ → ℕ → Value → Step (Unit {0})
add_modules line to v = do
  _ ← only leaves.Modules line (v ∷ [])
  objects ← all_of leaves.Modules line (v ∷ [])
  add_objects line to objects

-- ---- binding an attribute

abbrev pub adds_by_binding : ModuleKind → Bool
adds_by_binding bases.Plain = false
adds_by_binding bases.Lite = true
adds_by_binding bases.Soc = true

abbrev pub is_adding : Option Module → Bool
is_adding None = false
is_adding (Some x) = adds_by_binding x.kind

-- in a `LiteXModule` and in a `SoCCore` a module, an FSM or an event manager that is bound is added by its name
unfoldable pub add_bound : ℕ → ℕ → Value → Step (Unit {0})
add_bound line at v m = if is_adding (slice_get m.modules at) then add_some line at true (added_of m v) m else give tt m

-- an object that an attribute of the module binds itself
abbrev pub settle : ℕ → Value → Step (Unit {0})
settle at (value.Object object) = settle_object at object
settle at _ = give tt

unfoldable pub bind_attribute : ℕ → ℕ → List ℕ → Value → Step (Unit {0})
bind_attribute line at name v = do
  _ ← declare_bound line name v
  _ ← name_fits line name
  _ ← bind_name binding.Attribute name v
  _ ← settle at v
  change_module at (with_attribute name v)

-- `self.name = v`
unfoldable pub set_attribute : ℕ → ℕ → List ℕ → Value → Step (Unit {0})
set_attribute line at name v = do
  _ ← add_bound line at v
  bind_attribute line at name v

-- ---- statements

abbrev pub with_comb : List ℕ → Module → Module
with_comb made x = record x { comb = x.comb ++ made }

-- `self.comb += v`
unfoldable pub add_comb : ℕ → ℕ → Value → Step (Unit {0})
add_comb line at v = do
  found ← statements_of leaves.Statements line 0 (v ∷ [])
  change_module at (with_comb found.0)

abbrev pub sync_items : ℕ → List ℕ → List SyncItem
sync_items domain made = map (λ at. record { domain = domain; made = at }) made

abbrev pub with_sync : ℕ → List ℕ → Module → Module
with_sync domain made x = record x { sync = x.sync ++ sync_items domain made }

-- no statement mentions no domain
unfoldable pub add_some_in : ℕ → ℕ → List ℕ → List ℕ → Step (Unit {0})
add_some_in line at name made = do
  domain ← mention line name
  _ ← name_fits line name
  change_module at (with_sync domain made)

abbrev pub add_in : ℕ → ℕ → List ℕ → List ℕ → Step (Unit {0})
add_in line at name made = if nat_lt 0 (length made) then add_some_in line at name made else name_fits line name

-- `self.sync.name += v`, and `self.sync += v` for the domain `sys`
unfoldable pub add_sync : ℕ → ℕ → List ℕ → Value → Step (Unit {0})
add_sync line at name v = do
  found ← statements_of leaves.Statements line 0 (v ∷ [])
  add_in line at name found.0
