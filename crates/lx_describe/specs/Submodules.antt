-- The submodules of a module: those that its attributes bind themselves, each where it was first bound, then those that were
-- added without a name, in the order of adding.
use Rattle.std.specs.Prelude.{ℕ, Bool, true, false, ◌&&◌, not, nat_eq, List, [], ◌∷◌, ◌++◌, flat_map, is_some, slice_get, Option, Some, None, if◌then◌else◌}
use Rattle.std.specs.List.{list_any}
use Rattle.lx_state.specs.declared.machine.Machine.{Machine}
use Rattle.lx_state.specs.declared.machine.Module.{Module}
use Rattle.lx_state.specs.declared.machine.Submodule.{Submodule}
use Rattle.lx_objects.specs.Modules.{module_of_object}

-- ---- each object once

abbrev pub is_among : ℕ → List ℕ → Bool
is_among x xs = list_any (nat_eq x) xs

abbrev pub with_next : ℕ → List ℕ → List ℕ
with_next x xs = if is_among x xs then xs else xs ++ x ∷ []

-- those that come first, each where it comes first
unfoldable pub each_once : List ℕ → List ℕ → List ℕ
each_once before [] = before
each_once before (x ∷ xs) = each_once (with_next x before) xs

-- the objects that a module's attributes bind themselves
abbrev pub bound_once : Module → List ℕ
bound_once x = each_once [] x.bound

-- ---- where a module was added

abbrev pub is_place : ℕ → Option ℕ → Bool
is_place at None = false
is_place at (Some above) = nat_eq above at

-- whether a module was added to the one at a place
abbrev pub is_below : ℕ → Option Module → Bool
is_below at None = false
is_below at (Some x) = is_place at x.added

-- ---- with a name

abbrev pub named_module : Machine → ℕ → Option ℕ → List Submodule
named_module m at None = []
named_module m at (Some k) = if is_below at (slice_get m.modules k) then record { place = k; named = true } ∷ [] else []

-- the submodule that an object is
abbrev pub named_at : Machine → ℕ → ℕ → List Submodule
named_at m at object = named_module m at (module_of_object (slice_get m.objects object))

-- ---- without one

-- what stands for an FSM or an event manager is no module
abbrev pub is_unnamed : Machine → List ℕ → Option Module → Bool
is_unnamed m bound None = false
is_unnamed m bound (Some x) = is_some (module_of_object (slice_get m.objects x.object)) && not (is_among x.object bound)

-- a submodule that is none of these objects
abbrev pub unnamed_at : Machine → List ℕ → Submodule → List Submodule
unnamed_at m bound x = if is_unnamed m bound (slice_get m.modules x.place) then record { place = x.place; named = false } ∷ [] else []

-- those that no attribute of the module binds
abbrev pub unnamed_below : Machine → Module → List Submodule
unnamed_below m x = flat_map (unnamed_at m (bound_once x)) x.submodules

-- ---- the submodules

abbrev pub submodules_of : Machine → ℕ → Option Module → List Submodule
submodules_of m at None = []
submodules_of m at (Some x) = flat_map (named_at m at) (bound_once x) ++ unnamed_below m x

abbrev pub submodules : Machine → ℕ → List Submodule
submodules m at = submodules_of m at (slice_get m.modules at)
