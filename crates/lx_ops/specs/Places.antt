-- What attributes are bound and added to.
use Rattle.std.specs.Prelude.{ℕ, Bool, true, false, ◌&&◌, if◌then◌else◌, List, [], ◌∷◌, codes, slice_get, Option, Some, None, is_some}
use Rattle.std.specs.Str.{bytes_eq}
use Rattle.lx_text.specs.declared.faults.Kind.TheVariants as kind
use Rattle.lx_state.specs.declared.machine.Machine.{Machine}
use Rattle.lx_state.specs.declared.machine.Leaves.{Leaves}
use Rattle.lx_state.specs.declared.machine.Leaves.TheVariants as leaves
use Rattle.lx_state.specs.declared.values.Value.{Value}
use Rattle.lx_state.specs.declared.values.Value.TheVariants as value
use Rattle.lx_state.specs.Lists.{leaf_of}
use Rattle.lx_state.specs.Step.{Step, give, fault, ◌>>=◌}
use Rattle.lx_state.specs.declared.machine.Module.{Module}
use Rattle.lx_state.specs.declared.machine.Object.{Object}
use Rattle.lx_state.specs.declared.machine.What.{What}
use Rattle.lx_state.specs.declared.machine.What.TheVariants as what
use Rattle.lx_objects.specs.Events.{bind_source}
use Rattle.lx_objects.specs.Ios.{ios_of}
use Rattle.lx_objects.specs.Modules.{add_comb, add_module, add_modules, add_sync, added_of, bind_attribute, module_of, set_attribute}
use Rattle.lx_objects.specs.Statements.{are_all, only}
use Rattle.lx_paths.specs.Paths.{is_top}
use Rattle.lx_ops.specs.Attributes.{attribute_of, fragment_named}
use Rattle.lx_ops.specs.declared.attributes.Fragment.{Fragment}
use Rattle.lx_ops.specs.declared.attributes.Fragment.TheVariants as fragment
use Rattle.lx_ops.specs.declared.places.Holder.{Holder}
use Rattle.lx_ops.specs.declared.places.Holder.TheVariants as holder
use Rattle.lx_ops.specs.declared.places.Part.{Part}

abbrev pub part_named : Option ℕ → Option Fragment → Option Part
part_named (Some at) (Some f) = Some (record { module_ = at; fragment = f })
part_named _ _ = None

-- the fragment that `v.name` is
abbrev pub part_of : Machine → Value → List ℕ → Option Part
part_of m v name = part_named (module_of m v) (fragment_named name)

abbrev pub held : ℕ → Value → List ℕ → Option Part → Step Holder
held line v name (Some p) m = give (holder.Part p) m
held line v name None m = (attribute_of line v name >>= λ w. give (holder.Plain w)) m

-- `v.name` where a fragment may stand
unfoldable pub holder_of : ℕ → Value → List ℕ → Step Holder
holder_of line v name m = held line v name (part_of m v name) m

abbrev pub takes_names : Fragment → Bool
takes_names fragment.Comb = false
takes_names fragment.Sync = false
takes_names _ = true

abbrev pub named_holder : ℕ → Holder → Step Holder
named_holder line (holder.Plain w) m = give (holder.Plain w) m
named_holder line (holder.Part p) m = if takes_names p.fragment then give (holder.Part p) m else fault line kind.WrongKind m

-- `v.name` as the first argument of `setattr`
unfoldable pub setattr_holder : ℕ → Value → List ℕ → Step Holder
setattr_holder line v name = do
  h ← holder_of line v name
  named_holder line h

-- ---- binding

-- whether an attribute is the `ios` of the top
abbrev pub is_ports : Machine → List ℕ → Option Module → Bool
is_ports m name None = false
is_ports m name (Some x) = bytes_eq name (codes "ios") && is_top m x

abbrev pub ports_fit : ℕ → Value → Step (Unit {0})
ports_fit line v = ios_of line v >>= λ _. give tt

-- the top binds `ios` to lists of signals alone
abbrev pub attribute_fits : ℕ → ℕ → List ℕ → Value → Step (Unit {0})
attribute_fits line at name v m = if is_ports m name (slice_get m.modules at) then ports_fit line v m else give tt m

abbrev pub bind_own : ℕ → ℕ → List ℕ → Value → Step (Unit {0})
bind_own line at name v = do
  _ ← attribute_fits line at name v
  set_attribute line at name v

abbrev pub bind_added : ℕ → ℕ → List ℕ → Value → ℕ → Step (Unit {0})
bind_added line to name v at = do
  _ ← attribute_fits line to name v
  _ ← add_module line to true at
  bind_attribute line to name v

-- the event manager that an object is
abbrev pub manager_of_what : What → Option ℕ
manager_of_what (what.Manager k) = Some k
manager_of_what _ = None

abbrev pub manager_of_object : Option Object → Option ℕ
manager_of_object None = None
manager_of_object (Some o) = manager_of_what o.what

abbrev pub manager_of : Machine → Value → Option ℕ
manager_of m (value.Object at) = manager_of_object (slice_get m.objects at)
manager_of m _ = None

abbrev pub bind_managed : ℕ → List ℕ → Value → Option ℕ → Step (Unit {0})
bind_managed line name v None m = fault line kind.WrongKind m
bind_managed line name v (Some k) m = bind_source line k name v m

-- no fragment of a module is bound
abbrev pub bind_module : ℕ → ℕ → List ℕ → Value → Step (Unit {0})
bind_module line at name v m = if is_some (fragment_named name) then fault line kind.WrongKind m else bind_own line at name v m

-- on a module everything is bound, and on an event manager sources
abbrev pub bind_plain : ℕ → Value → List ℕ → Value → Option ℕ → Step (Unit {0})
bind_plain line o name v None m = bind_managed line name v (manager_of m o) m
bind_plain line o name v (Some at) m = bind_module line at name v m

abbrev pub bind_submodule : ℕ → ℕ → List ℕ → Value → Option ℕ → Step (Unit {0})
bind_submodule line to name v None m = fault line kind.WrongKind m
bind_submodule line to name v (Some at) m = bind_added line to name v at m

-- whether a value is an object of a kind itself
abbrev pub is_leaf : Leaves → Machine → Value → Bool
is_leaf these m (value.Object at) = are_all these (leaf_of (slice_get m.objects at))
is_leaf these m _ = false

abbrev pub bind_special : ℕ → ℕ → List ℕ → Value → Bool → Step (Unit {0})
bind_special line to name v true m = bind_own line to name v m
bind_special line to name v false m = fault line kind.WrongKind m

abbrev pub bind_under : ℕ → ℕ → List ℕ → Value → Fragment → Step (Unit {0})
bind_under line to name v fragment.Submodules m = bind_submodule line to name v (added_of m v) m
bind_under line to name v fragment.Specials m = bind_special line to name v (is_leaf leaves.Specials m v) m
bind_under line to name v fragment.ClockDomains m = bind_special line to name v (is_leaf leaves.ClockDomains m v) m
bind_under line to name v _ m = fault line kind.WrongKind m

abbrev pub bind_part : ℕ → List ℕ → Value → Part → Step (Unit {0})
bind_part line name v p m = if is_some (fragment_named name) then fault line kind.WrongKind m else bind_under line p.module_ name v p.fragment m

-- `h.name = v`
unfoldable pub bind_at : ℕ → Holder → List ℕ → Value → Step (Unit {0})
bind_at line (holder.Plain o) name v m = bind_plain line o name v (module_of m o) m
bind_at line (holder.Part p) name v m = bind_part line name v p m

-- ---- adding

abbrev pub is_sync : Fragment → Bool
is_sync fragment.Sync = true
is_sync _ = false

-- whether `h.name += ..` adds to a fragment
abbrev pub adds : Machine → Holder → List ℕ → Bool
adds m (holder.Plain o) name = is_some (part_of m o name)
adds m (holder.Part p) name = is_sync p.fragment

-- what takes part once it is made, and clock domains, are only looked at
abbrev pub add_fragment : ℕ → ℕ → Value → Fragment → Step (Unit {0})
add_fragment line at v fragment.Comb m = add_comb line at v m
add_fragment line at v fragment.Sync m = add_sync line at (codes "sys") v m
add_fragment line at v fragment.Submodules m = add_modules line at v m
add_fragment line at v fragment.Specials m = only leaves.Specials line (v ∷ []) m
add_fragment line at v fragment.ClockDomains m = only leaves.ClockDomains line (v ∷ []) m

abbrev pub add_part : ℕ → Value → Option Part → Step (Unit {0})
add_part line v None m = fault line kind.WrongKind m
add_part line v (Some p) m = add_fragment line p.module_ v p.fragment m

abbrev pub add_under : ℕ → List ℕ → Value → Part → Step (Unit {0})
add_under line name v p m = if is_sync p.fragment then add_sync line p.module_ name v m else fault line kind.WrongKind m

-- `h.name += v` of a fragment; a domain's name stands behind `sync`
unfoldable pub add_at : ℕ → Holder → List ℕ → Value → Step (Unit {0})
add_at line (holder.Plain o) name v m = add_part line v (part_of m o name) m
add_at line (holder.Part p) name v m = add_under line name v p m

-- ---- reading

-- `h.name` as a value
unfoldable pub read_at : ℕ → Holder → List ℕ → Step Value
read_at line (holder.Plain o) name m = attribute_of line o name m
read_at line (holder.Part p) name m = fault line kind.WrongKind m
