-- What a system declares beside its modules: the places that it wishes for, and what its bus gives to interfaces.
use Rattle.std.specs.Prelude.{ℕ, Bool, true, false, ◌&&◌, ◌||◌, List, [], ◌∷◌, codes, slice_get, Option, Some, None}
use Rattle.std.specs.Str.{bytes_eq}
use Rattle.lx_fhdl.specs.declared.places.RegionWish.{RegionWish}
use Rattle.lx_fhdl.specs.declared.places.Wishes.{Wishes}
use Rattle.lx_description.specs.Laws.{no_wishes}
use Rattle.lx_state.specs.declared.machine.InterfaceState.{InterfaceState}
use Rattle.lx_state.specs.declared.machine.Machine.{Machine}
use Rattle.lx_state.specs.declared.machine.Object.{Object}
use Rattle.lx_state.specs.declared.machine.Owner.{Owner}
use Rattle.lx_state.specs.declared.machine.SystemState.{SystemState}
use Rattle.lx_state.specs.declared.machine.What.{What}
use Rattle.lx_state.specs.declared.machine.What.TheVariants as what
use Rattle.lx_describe.specs.declared.systems.Declared.{Declared}

-- ---- places

-- the region of the registers has 65,536 bytes, which are not cached
abbrev pub csr_region : SystemState → RegionWish
csr_region s = record { name = codes "csr"; origin = Some s.base; size = 65536; cached = false; line = s.line }

-- banks, and the modules that have an event manager, are told by the modules
abbrev pub wishes_of : Bool → SystemState → Wishes
wishes_of true s = record { regions = csr_region s ∷ s.regions; banks = []; fixes = s.fixes; managers = []; irqs = s.irqs }
wishes_of false s = no_wishes

abbrev pub declared_by : Bool → SystemState → Declared
declared_by soc s = record { slaves = s.slaves; wishes = wishes_of soc s; constants = s.constants }

-- ---- interfaces

abbrev pub is_access : List ℕ → Bool
is_access part = bytes_eq part (codes "cyc") || (bytes_eq part (codes "stb") || bytes_eq part (codes "we"))

-- the signals of an interface that its slave reads
abbrev pub is_read : Option (List ℕ) → Bool
is_read None = false
is_read (Some part) = bytes_eq part (codes "adr") || (bytes_eq part (codes "dat_w") || (bytes_eq part (codes "sel") || is_access part))

abbrev pub is_handed : Option InterfaceState → Bool
is_handed None = false
is_handed (Some x) = x.handed

abbrev pub what_is_handed : Machine → What → Bool
what_is_handed m (what.Interface k) = is_handed (slice_get m.interfaces k)
what_is_handed m _ = false

-- whether an object is an interface that was handed over to the bus
abbrev pub object_is_handed : Machine → Option Object → Bool
object_is_handed m None = false
object_is_handed m (Some o) = what_is_handed m o.what

-- whether the bus gives a signal of this owner
abbrev pub is_bus_given : Machine → Option Owner → Bool
is_bus_given m None = false
is_bus_given m (Some x) = object_is_handed m (slice_get m.objects x.object) && is_read x.part
