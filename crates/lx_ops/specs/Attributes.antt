-- Attributes of values, and the fragments of modules.
use Rattle.std.specs.Prelude.{ℕ, Bool, true, false, not, ◌&&◌, ◌||◌, ◌+◌, if◌then◌else◌, List, [], ◌∷◌, length, map, slice_get, codes, Option, Some, None, is_some}
use Rattle.std.specs.Str.{bytes_eq}
use Rattle.lx_text.specs.declared.faults.Kind.TheVariants as kind
use Rattle.lx_names.specs.Tables.{look_up}
use Rattle.lx_fhdl.specs.Below.{ExprId}
use Rattle.lx_description.specs.declared.registers.Field.{Field}
use Rattle.lx_state.specs.declared.machine.Form.{Form}
use Rattle.lx_state.specs.declared.machine.Form.TheVariants as form
use Rattle.lx_state.specs.declared.machine.InterfaceState.{InterfaceState}
use Rattle.lx_state.specs.declared.machine.Made.{Made}
use Rattle.lx_state.specs.declared.machine.ManagerState.{ManagerState}
use Rattle.lx_state.specs.declared.machine.Module.{Module}
use Rattle.lx_state.specs.declared.machine.ModuleKind.{ModuleKind}
use Rattle.lx_state.specs.declared.machine.ModuleKind.TheVariants as bases
use Rattle.lx_state.specs.declared.machine.Object.{Object}
use Rattle.lx_state.specs.declared.machine.PortState.{PortState}
use Rattle.lx_state.specs.declared.machine.RegisterState.{RegisterState}
use Rattle.lx_state.specs.declared.machine.SourceState.{SourceState}
use Rattle.lx_state.specs.declared.machine.What.{What}
use Rattle.lx_state.specs.declared.machine.What.TheVariants as what
use Rattle.lx_state.specs.declared.machine.Writing.{Writing}
use Rattle.lx_state.specs.declared.values.Builtin.{Builtin}
use Rattle.lx_state.specs.declared.values.Builtin.TheVariants as builtin
use Rattle.lx_state.specs.declared.values.Hub.{Hub}
use Rattle.lx_state.specs.declared.values.Hub.TheVariants as hub
use Rattle.lx_state.specs.declared.values.Method.TheVariants as method
use Rattle.lx_state.specs.declared.values.Value.{Value}
use Rattle.lx_state.specs.declared.values.Value.TheVariants as value
use Rattle.lx_state.specs.Step.{Step, give, fault}
use Rattle.lx_objects.specs.Events.{source_parts}
use Rattle.lx_objects.specs.Modules.{attribute}
use Rattle.lx_objects.specs.Registers.{own_parts}
use Rattle.lx_objects.specs.Systems.{interface_parts}
use Rattle.lx_ops.specs.declared.attributes.Fragment.{Fragment}
use Rattle.lx_ops.specs.declared.attributes.Fragment.TheVariants as fragment

abbrev pub unknown : ℕ → List ℕ → Step Value
unknown line name = fault line (kind.UnknownName name)

-- the one name that there is
abbrev pub single : ℕ → List ℕ → List ℕ → Value → Step Value
single line name own v m = if bytes_eq name own then give v m else unknown line name m

-- ---- objects

-- the fragment of a module with this name
abbrev pub fragment_named : List ℕ → Option Fragment
fragment_named name =
    if bytes_eq name (codes "comb") then Some fragment.Comb
    else if bytes_eq name (codes "sync") then Some fragment.Sync
    else if bytes_eq name (codes "submodules") then Some fragment.Submodules
    else if bytes_eq name (codes "specials") then Some fragment.Specials
    else if bytes_eq name (codes "clock_domains") then Some fragment.ClockDomains
    else None

abbrev pub is_system : ModuleKind → Bool
is_system bases.Soc = true
is_system _ = false

-- what a system's top has besides
abbrev pub system_name : List ℕ → Option Value
system_name name =
    if bytes_eq name (codes "bus") then Some (value.Hub hub.Bus)
    else if bytes_eq name (codes "csr") then Some (value.Hub hub.Csr)
    else if bytes_eq name (codes "irq") then Some (value.Hub hub.Irq)
    else if bytes_eq name (codes "add_ram") then Some (value.Method method.AddRam)
    else if bytes_eq name (codes "add_rom") then Some (value.Method method.AddRom)
    else if bytes_eq name (codes "add_constant") then Some (value.Method method.AddConstant)
    else None

-- of a system, where no attribute has the name
abbrev pub system_value : List ℕ → Option Module → Option Value
system_value name None = None
system_value name (Some x) = if is_system x.kind && not (is_some (look_up x.attributes name)) then system_name name else None

abbrev pub own_or_bound : ℕ → ℕ → List ℕ → Option Value → Step Value
own_or_bound line at name None m = attribute line at name m
own_or_bound line at name (Some v) m = give v m

-- a fragment is no value
unfoldable pub module_attribute : ℕ → ℕ → List ℕ → Step Value
module_attribute line at name m =
    if is_some (fragment_named name) then fault line kind.WrongKind m
    else own_or_bound line at name (system_value name (slice_get m.modules at)) m

-- where a system is asked for places
abbrev pub hub_attribute : ℕ → List ℕ → Hub → Step Value
hub_attribute line name hub.Bus m = single line name (codes "add_slave") (value.Method method.AddSlave) m
hub_attribute line name hub.Csr m = single line name (codes "add") (value.Method method.AddBank) m
hub_attribute line name hub.Irq m = single line name (codes "add") (value.Method method.AddInterrupt) m

-- the methods of an FSM
abbrev pub fsm_attribute : ℕ → List ℕ → ℕ → Step Value
fsm_attribute line name at m =
    if bytes_eq name (codes "act") then give (value.Method (method.Act at)) m
    else if bytes_eq name (codes "ongoing") then give (value.Method (method.Ongoing at)) m
    else unknown line name m

-- the method of a memory
abbrev pub memory_attribute : ℕ → List ℕ → ℕ → Step Value
memory_attribute line name at m = if bytes_eq name (codes "get_port") then give (value.Method (method.GetPort at)) m else unknown line name m

-- a port has these two where it may write
abbrev pub writing_attribute : ℕ → List ℕ → Option Writing → Step Value
writing_attribute line name None m = unknown line name m
writing_attribute line name (Some w) m =
    if bytes_eq name (codes "dat_w") then give (value.Expr w.dat_w) m
    else if bytes_eq name (codes "we") then give (value.Expr w.we) m
    else unknown line name m

-- the signals of a port
abbrev pub port_attribute : ℕ → List ℕ → Option PortState → Step Value
port_attribute line name None m = unknown line name m
port_attribute line name (Some p) m =
    if bytes_eq name (codes "adr") then give (value.Expr p.adr) m
    else if bytes_eq name (codes "dat_r") then give (value.Expr p.dat_r) m
    else writing_attribute line name p.writing m

-- the place of the first of these names that is this one, where they begin at the k-th place
unfoldable pub place_among : ℕ → List ℕ → List (List ℕ) → Option ℕ
place_among k name [] = None
place_among k name (n ∷ ns) = if bytes_eq name n then Some k else place_among (k + 1) name ns

abbrev pub some_read : ℕ → List ℕ → Option ExprId → Step Value
some_read line name None m = unknown line name m
some_read line name (Some read) m = give (value.Expr read) m

-- the signal that one of these expressions reads
abbrev pub read_there : ℕ → List ℕ → List ExprId → Option ℕ → Step Value
read_there line name reads None m = unknown line name m
read_there line name reads (Some k) m = some_read line name (slice_get reads k) m

-- the signals of a register by their own names, and its fields
abbrev pub register_attribute : ℕ → List ℕ → ℕ → Option RegisterState → Step Value
register_attribute line name at None m = unknown line name m
register_attribute line name at (Some r) m =
    if bytes_eq name (codes "fields") then give (value.Fields at) m
    else read_there line name r.reads (place_among 0 name (own_parts r.decl r.decl.kind)) m

abbrev pub field_names : List Field → List (List ℕ)
field_names fields = map (λ (f : Field). f.name) fields

-- the signals of a register's fields, which stand behind its own ones; of two fields with one name the first
abbrev pub field_attribute : ℕ → List ℕ → Option RegisterState → Step Value
field_attribute line name None m = unknown line name m
field_attribute line name (Some r) m =
    read_there line name r.reads (place_among (length (own_parts r.decl r.decl.kind)) name (field_names r.decl.fields)) m

-- the signals of a source of events
abbrev pub source_attribute : ℕ → List ℕ → Option SourceState → Step Value
source_attribute line name None m = unknown line name m
source_attribute line name (Some s) m = read_there line name s.reads (place_among 0 name source_parts) m

abbrev pub source_value : ℕ → List ℕ → Option SourceState → Step Value
source_value line name None m = unknown line name m
source_value line name (Some s) m = give (value.Object s.object) m

-- what an event manager has besides its sources
abbrev pub manager_name : ℕ → List ℕ → ExprId → Step Value
manager_name line name irq m =
    if bytes_eq name (codes "irq") then give (value.Expr irq) m
    else if bytes_eq name (codes "finalize") then give (value.Method method.Finalize) m
    else unknown line name m

-- the source that is bound under a name comes first
abbrev pub named_source : ℕ → List ℕ → ExprId → Option ℕ → Step Value
named_source line name irq None m = manager_name line name irq m
named_source line name irq (Some k) m = source_value line name (slice_get m.sources k) m

abbrev pub manager_attribute : ℕ → List ℕ → Option ManagerState → Step Value
manager_attribute line name None m = unknown line name m
manager_attribute line name (Some x) m = named_source line name x.read (look_up x.names name) m

-- the signals of an interface of the bus
abbrev pub interface_attribute : ℕ → List ℕ → Option InterfaceState → Step Value
interface_attribute line name None m = unknown line name m
interface_attribute line name (Some x) m = read_there line name x.reads (place_among 0 name interface_parts) m

abbrev pub what_attribute : ℕ → List ℕ → What → Step Value
what_attribute line name (what.Module at) m = module_attribute line at name m
what_attribute line name (what.Fsm at) m = fsm_attribute line name at m
what_attribute line name (what.Memory at) m = memory_attribute line name at m
what_attribute line name (what.Port at) m = port_attribute line name (slice_get m.ports at) m
what_attribute line name (what.Register at) m = register_attribute line name at (slice_get m.registers at) m
what_attribute line name (what.Manager at) m = manager_attribute line name (slice_get m.managers at) m
what_attribute line name (what.Source at) m = source_attribute line name (slice_get m.sources at) m
what_attribute line name (what.Interface at) m = interface_attribute line name (slice_get m.interfaces at) m
what_attribute line name _ m = unknown line name m

abbrev pub object_attribute : ℕ → List ℕ → Option Object → Step Value
object_attribute line name None m = unknown line name m
object_attribute line name (Some o) m = what_attribute line name o.what m

-- ---- other values

abbrev pub if_branch : ℕ → List ℕ → ℕ → Step Value
if_branch line name at m =
    if bytes_eq name (codes "Elif") then give (value.Method (method.Elif at)) m
    else if bytes_eq name (codes "Else") then give (value.Method (method.Else at)) m
    else unknown line name m

-- after an `Else` neither may stand
abbrev pub last_branch : ℕ → List ℕ → Step Value
last_branch line name m =
    if bytes_eq name (codes "Elif") || bytes_eq name (codes "Else") then fault line kind.WrongKind m else unknown line name m

abbrev pub branch : ℕ → List ℕ → ℕ → Form → Step Value
branch line name at (form.If before condition body) m = if_branch line name at m
branch line name at (form.Else before body) m = last_branch line name m
branch line name at _ m = unknown line name m

abbrev pub made_attribute : ℕ → List ℕ → ℕ → Option Made → Step Value
made_attribute line name at None m = unknown line name m
made_attribute line name at (Some s) m = branch line name at s.form m

abbrev pub builtin_attribute : ℕ → List ℕ → Builtin → Step Value
builtin_attribute line name builtin.Wishbone m = single line name (codes "Interface") (value.Method method.Interface) m
builtin_attribute line name _ m = unknown line name m

-- `v.name`
unfoldable pub attribute_of : ℕ → Value → List ℕ → Step Value
attribute_of line (value.Expr id) name m = single line name (codes "eq") (value.Method (method.Eq id)) m
attribute_of line (value.Made at) name m = made_attribute line name at (slice_get m.made at) m
attribute_of line (value.Object at) name m = object_attribute line name (slice_get m.objects at) m
attribute_of line (value.Hub h) name m = hub_attribute line name h m
attribute_of line (value.Fields at) name m = field_attribute line name (slice_get m.registers at) m
attribute_of line (value.Super at) name m = single line name (codes "__init__") (value.Method (method.Init at)) m
attribute_of line (value.Builtin b) name m = builtin_attribute line name b m
attribute_of line _ name m = unknown line name m
