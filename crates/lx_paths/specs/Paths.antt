-- The names of what a description made, and the paths to it, once all classes were gone through and the top was made.
use Rattle.std.specs.Prelude.{ℕ, zero, suc, ◌+◌, Bool, false, not, List, [], ◌∷◌, ◌++◌, map, length, codes, slice_get, nat_eq, Option, Some, None, option_to_list, unwrap_or, if◌then◌else◌}
use Rattle.std.specs.Char.{is_ascii_digit, to_ascii_lowercase}
use Rattle.std.specs.List.{range_with_len}
use Rattle.std.specs.Str.{bytes_eq}
use Rattle.lx_description.specs.declared.registers.RegKind.{RegKind}
use Rattle.lx_description.specs.declared.registers.RegKind.TheVariants as register
use Rattle.lx_description.specs.declared.registers.SourceKind.{SourceKind}
use Rattle.lx_description.specs.declared.registers.SourceKind.TheVariants as source
use Rattle.lx_state.specs.declared.machine.Class.{Class}
use Rattle.lx_state.specs.declared.machine.Fsm.{Fsm}
use Rattle.lx_state.specs.declared.machine.Machine.{Machine}
use Rattle.lx_state.specs.declared.machine.ManagerState.{ManagerState}
use Rattle.lx_state.specs.declared.machine.Module.{Module}
use Rattle.lx_state.specs.declared.machine.Object.{Object}
use Rattle.lx_state.specs.declared.machine.Owner.{Owner}
use Rattle.lx_state.specs.declared.machine.RegisterState.{RegisterState}
use Rattle.lx_state.specs.declared.machine.SourceState.{SourceState}
use Rattle.lx_state.specs.declared.machine.What.{What}
use Rattle.lx_state.specs.declared.machine.What.TheVariants as what
use Rattle.lx_names.specs.Tables.{look_up}
use Rattle.lx_state.specs.Frames.{or_else}
use Rattle.lx_state.specs.Naming.{item_name}

-- ---- names

-- the class's name in lower case
abbrev pub class_name : Option Class → List ℕ
class_name None = codes "module"
class_name (Some c) = map to_ascii_lowercase c.name

abbrev pub module_name : Machine → Option Module → List ℕ
module_name m None = class_name None
module_name m (Some x) = class_name (slice_get m.classes x.class)

-- a declared register is none of events
abbrev pub register_kind : RegKind → List ℕ
register_kind register.Storage = codes "csrstorage"
register_kind register.Status = codes "csrstatus"
register_kind _ = codes "csr"

abbrev pub kind_of_register : Option RegisterState → List ℕ
kind_of_register None = codes "csr"
kind_of_register (Some r) = register_kind r.decl.kind

abbrev pub source_kind : SourceKind → List ℕ
source_kind source.Pulse = codes "eventsourcepulse"
source_kind source.Falling = codes "eventsourceprocess"
source_kind source.Rising = codes "eventsourceprocess"
source_kind source.Level = codes "eventsourcelevel"

abbrev pub kind_of_source : Option SourceState → List ℕ
kind_of_source None = codes "eventsource"
kind_of_source (Some s) = source_kind s.kind

-- of what has no other name
abbrev pub kind_name : Machine → What → List ℕ
kind_name m (what.Signal x) = codes "sig"
kind_name m (what.Module at) = module_name m (slice_get m.modules at)
kind_name m (what.ClockDomain d) = codes "clockdomain"
kind_name m what.MultiReg = codes "multireg"
kind_name m (what.Fsm k) = codes "fsm"
kind_name m (what.Memory k) = codes "mem"
kind_name m (what.Port j) = codes "port"
kind_name m (what.Register k) = kind_of_register (slice_get m.registers k)
kind_name m (what.Field k) = codes "csrfield"
kind_name m (what.Constant k) = codes "csrconstant"
kind_name m (what.Manager k) = codes "eventmanager"
kind_name m (what.Source k) = kind_of_source (slice_get m.sources k)
kind_name m (what.Region k) = codes "socregion"
kind_name m (what.Interface k) = codes "interface"

-- `name=`, else that of the first binding to an attribute, else that of the first one to a local name
abbrev pub chosen_name : Object → Option (List ℕ)
chosen_name o = or_else o.given (or_else o.by_attribute o.by_local)

abbrev pub full_name : Machine → Object → List ℕ
full_name m o = unwrap_or (chosen_name o) (kind_name m o.what)

-- what is left of a name without the underscores that it begins with
unfoldable pub bare : List ℕ → List ℕ
bare [] = []
bare (c ∷ cs) = if nat_eq c 95 then bare cs else c ∷ cs

-- neither empty nor begun by a digit
abbrev pub is_proper : List ℕ → Bool
is_proper [] = false
is_proper (c ∷ cs) = not (is_ascii_digit c)

-- a name without the underscores that it begins with, where what is left is proper
abbrev pub without_underscores : List ℕ → List ℕ
without_underscores name = if is_proper (bare name) then bare name else name

-- registers, and constants that stand as registers do, are named without these
abbrev pub name_for : What → List ℕ → List ℕ
name_for (what.Register k) name = without_underscores name
name_for (what.Constant k) name = without_underscores name
name_for _ name = name

abbrev pub own_name : Machine → Object → List ℕ
own_name m o = name_for o.what (full_name m o)

-- ---- the modules around

-- the top is of the last class, which no other class sees
abbrev pub is_top : Machine → Module → Bool
is_top m x = nat_eq (x.class + 1) (length m.classes)

abbrev pub module_below : Machine → Option Module → Option Object
module_below m None = None
module_below m (Some x) = if is_top m x then None else slice_get m.objects x.object

-- the module in whose `__init__` something was made, where it stands below the top
abbrev pub maker_below : Machine → Option ℕ → Option Object
maker_below m None = None
maker_below m (Some at) = module_below m (slice_get m.modules at)

abbrev pub from_maker : (Object → List Object) → Option Object → List Object
from_maker around None = []
from_maker around (Some x) = around x ++ x ∷ []

-- the modules below the top in whose `__init__` an object was made, the outermost first, within so many levels
unfoldable pub modules_around : Machine → ℕ → Object → List Object
modules_around m zero o = []
modules_around m (suc levels) o = from_maker (modules_around m levels) (maker_below m o.maker)

-- ---- paths

-- no more classes are made one within another
abbrev pub object_path : Machine → Option (List ℕ) → Object → List (List ℕ)
object_path m part o = map (own_name m) (modules_around m 64 o ++ o ∷ []) ++ option_to_list part

abbrev pub some_path : Machine → Option (List ℕ) → Option Object → List (List ℕ)
some_path m part None = []
some_path m part (Some o) = object_path m part o

-- of an object, or of a part of it
abbrev pub path_of : Machine → ℕ → Option (List ℕ) → List (List ℕ)
path_of m object part = some_path m part (slice_get m.objects object)

-- ---- parts of FSMs

abbrev pub what_fsm : Machine → What → Option Fsm
what_fsm m (what.Fsm k) = slice_get m.fsms k
what_fsm m _ = None

-- the FSM that an object is
abbrev pub object_fsm : Machine → Option Object → Option Fsm
object_fsm m None = None
object_fsm m (Some o) = what_fsm m o.what

-- its own signal is `state`; what is `ongoing` of a state goes by the state's number
abbrev pub fsm_part : Fsm → Option (List ℕ) → List ℕ
fsm_part f None = codes "state"
fsm_part f (Some name) = item_name (codes "ongoing") (unwrap_or (look_up f.names name) 0)

abbrev pub part_name : Option Fsm → Option (List ℕ) → Option (List ℕ)
part_name None part = part
part_name (Some f) part = Some (fsm_part f part)

-- ---- parts of event managers

abbrev pub what_manager : Machine → What → Option ManagerState
what_manager m (what.Manager k) = slice_get m.managers k
what_manager m _ = None

-- the event manager that an object is
abbrev pub object_manager : Machine → Option Object → Option ManagerState
object_manager m None = None
object_manager m (Some o) = what_manager m o.what

abbrev pub is_enable : Option (List ℕ) → Bool
is_enable None = false
is_enable (Some part) = bytes_eq part (codes "enable")

-- the event manager whose `enable` it is
abbrev pub owner_manager : Machine → Option Owner → Option ManagerState
owner_manager m None = None
owner_manager m (Some x) = if is_enable x.part then object_manager m (slice_get m.objects x.object) else None

-- ---- signals

-- the `enable` of an event manager is generated hardware
abbrev pub path_unless : Option ManagerState → List (List ℕ) → List (List ℕ)
path_unless None path = path
path_unless (Some x) path = []

-- generated hardware is nobody's
abbrev pub owner_path : Machine → Option Owner → List (List ℕ)
owner_path m None = []
owner_path m (Some x) = path_unless (owner_manager m (Some x)) (path_of m x.object (part_name (object_fsm m (slice_get m.objects x.object)) x.part))

-- of each signal, in order
abbrev pub signal_paths : Machine → List (List (List ℕ))
signal_paths m = map (λ x. owner_path m (slice_get m.owners x)) (range_with_len 0 (length m.shaped.signals))
