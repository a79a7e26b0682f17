-- `SoCRegion`, `wishbone.Interface`, and what a system's top is asked for: `super().__init__(..)`, `add_ram`, `add_rom`,
-- `add_constant`, `bus.add_slave`, `csr.add`, `irq.add`.
use Rattle.std.specs.Prelude.{ℕ, ℤ, pos, negsuc, Bool, not, ◌&&◌, ◌+◌, ◌^◌, nat_le, nat_lt, if◌then◌else◌, List, [], ◌∷◌, length, slice_get, Option, Some, None, codes}
use Rattle.std.specs.Ordering.{int_eq}
use Rattle.std.specs.Str.{bytes_eq}
use Rattle.lx_text.specs.declared.faults.Kind.TheVariants as kind
use Rattle.lx_value.specs.declared.arguments.Param.{Param}
use Rattle.lx_description.specs.declared.modules.ConstValue.{ConstValue}
use Rattle.lx_description.specs.declared.modules.ConstValue.TheVariants as constant
use Rattle.lx_fhdl.specs.declared.places.Fix.{Fix}
use Rattle.lx_state.specs.declared.machine.InterfaceState.{InterfaceState}
use Rattle.lx_state.specs.declared.machine.Machine.{Machine}
use Rattle.lx_state.specs.declared.machine.Object.{Object}
use Rattle.lx_state.specs.declared.machine.RegionState.{RegionState}
use Rattle.lx_state.specs.declared.machine.What.{What}
use Rattle.lx_state.specs.declared.machine.What.TheVariants as what
use Rattle.lx_state.specs.declared.values.Value.{Value}
use Rattle.lx_state.specs.declared.values.Value.TheVariants as value
use Rattle.lx_state.specs.Lists.{int_of, text_of}
use Rattle.lx_state.specs.Step.{Step, give, fault, or_fault, ◌>>=◌}
use Rattle.lx_objects.specs.Systems.{bank_added, constant_added, interface_made, interrupt_added, region_made, set_base, slave_added, store_made, words_of}
use Rattle.lx_builtins.specs.Arguments.{argument, bound_to, given, identifier_of, optional, required}
use Rattle.lx_builtins.specs.Domains.{name_there}
use Rattle.lx_builtins.specs.Memories.{contents_looked_at, contents_or}
use Rattle.lx_builtins.specs.Numbers.{is_zero}
use Rattle.lx_builtins.specs.Registers.{constant_value}
use Rattle.lx_builtins.specs.Signals.{integer_looked_at, integer_or, name_looked_at, named_only}
use Rattle.lx_builtins.specs.declared.arguments.Arguments.{Arguments}
use Rattle.lx_builtins.specs.declared.systems.Request.{Request}
use Rattle.lx_builtins.specs.declared.systems.Request.TheVariants as request

-- ---- numbers

-- one that 64 bits hold
abbrev pub long_of : ℤ → Option ℕ
long_of (pos n) = if nat_lt n (2 ^ 64) then Some n else None
long_of (negsuc n) = None

abbrev pub long_fits : ℕ → ℤ → Step ℕ
long_fits line n = or_fault (long_of n) line kind.NumberRange

-- one that 32 bits hold
abbrev pub short_of : ℤ → Option ℕ
short_of (pos n) = if nat_lt n (2 ^ 32) then Some n else None
short_of (negsuc n) = None

abbrev pub short_fits : ℕ → ℤ → Step ℕ
short_fits line n = or_fault (short_of n) line kind.NumberRange

unfoldable pub stated_origin : ℕ → Value → Step (Option ℕ)
stated_origin line v = do
  n ← int_of line v
  origin ← long_fits line n
  give (Some origin)

-- where a region begins, or None
abbrev pub origin_of : ℕ → Value → Step (Option ℕ)
origin_of line value.Nothing m = give None m
origin_of line v m = stated_origin line v m

abbrev pub origin_or : ℕ → Option Value → Step (Option ℕ)
origin_or line None m = give None m
origin_or line (Some v) m = origin_of line v m

unfoldable pub stated_number : ℕ → Value → Step (Option ℕ)
stated_number line v = do
  n ← int_of line v
  number ← short_fits line n
  give (Some number)

-- the number of a bank or of an interrupt, or None
abbrev pub number_of : ℕ → Value → Step (Option ℕ)
number_of line value.Nothing m = give None m
number_of line v m = stated_number line v m

abbrev pub number_or : ℕ → Option Value → Step (Option ℕ)
number_or line None m = give None m
number_or line (Some v) m = number_of line v m

-- 1 to so many bytes
abbrev pub bytes_within : ℕ → ℕ → ℕ → Step ℕ
bytes_within line most n m = if nat_le 1 n && nat_le n most then give n m else fault line kind.BadWidth m

unfoldable pub size_of : ℕ → ℕ → Value → Step ℕ
size_of line most v = do
  n ← int_of line v
  size ← long_fits line n
  bytes_within line most size

-- a region has at most all addresses, and a memory on the bus at most 262,144 bytes
abbrev pub most_bytes : ℕ
most_bytes = 2 ^ 32

abbrev pub most_stored : ℕ
most_stored = 262144

-- ---- what arguments name

abbrev pub region_of_what : Machine → What → Option RegionState
region_of_what m (what.Region k) = slice_get m.regions k
region_of_what m _ = None

abbrev pub region_of_object : Machine → Option Object → Option RegionState
region_of_object m None = None
region_of_object m (Some o) = region_of_what m o.what

abbrev pub region_at : Machine → Value → Option RegionState
region_at m (value.Object at) = region_of_object m (slice_get m.objects at)
region_at m _ = None

-- the region that a value is
unfoldable pub region_of : ℕ → Value → Step RegionState
region_of line v m = or_fault (region_at m v) line kind.WrongKind m

abbrev pub free_interface : ℕ → Option InterfaceState → Option ℕ
free_interface k None = None
free_interface k (Some x) = if x.handed then None else Some k

abbrev pub interface_of_what : Machine → What → Option ℕ
interface_of_what m (what.Interface k) = free_interface k (slice_get m.interfaces k)
interface_of_what m _ = None

abbrev pub interface_of_object : Machine → Option Object → Option ℕ
interface_of_object m None = None
interface_of_object m (Some o) = interface_of_what m o.what

abbrev pub interface_at : Machine → Value → Option ℕ
interface_at m (value.Object at) = interface_of_object m (slice_get m.objects at)
interface_at m _ = None

-- the interface that a value is, where it was not handed to the bus yet
unfoldable pub interface_of : ℕ → Value → Step ℕ
interface_of line v m = or_fault (interface_at m v) line kind.WrongKind m

-- ---- the options of a system

-- they can't be chosen yet
unfoldable pub option_fits : ℕ → List ℕ → ℤ → ℤ → Step (Unit {0})
option_fits line name only n m = if int_eq n only then give tt m else fault line (kind.BadOption name) m

unfoldable pub integer_option : ℕ → List ℕ → ℤ → Value → Step (Unit {0})
integer_option line name only v = do
  n ← int_of line v
  option_fits line name only n

abbrev pub ordering_fits : ℕ → List ℕ → Step (Unit {0})
ordering_fits line t m = if bytes_eq t (codes "big") then give tt m else fault line (kind.BadOption (codes "csr_ordering")) m

unfoldable pub ordering_option : ℕ → Value → Step (Unit {0})
ordering_option line v = do
  t ← text_of line v
  ordering_fits line t

unfoldable pub base_of : ℕ → Value → Step ℕ
base_of line v = do
  n ← int_of line v
  long_fits line n

abbrev pub base_or : ℕ → Option Value → Step ℕ
base_or line None m = give 0xf0000000 m
base_or line (Some v) m = base_of line v m

-- ---- each argument by itself

-- its value is not looked at
abbrev pub checked : {A : Type 0} → Step A → Step (Unit {0})
checked step = step >>= λ _. give tt

abbrev pub init_looked_at : ℕ → List ℕ → Value → Step (Unit {0})
init_looked_at line name v m =
    if bytes_eq name (codes "csr_data_width") then integer_option line name (pos 32) v m
    else if bytes_eq name (codes "csr_ordering") then ordering_option line v m
    else if bytes_eq name (codes "csr_paging") then integer_option line name (pos 0x800) v m
    else checked (base_of line v) m

-- `mode` is anything
abbrev pub region_looked_at : ℕ → List ℕ → Value → Step (Unit {0})
region_looked_at line name v m =
    if bytes_eq name (codes "origin") then checked (origin_of line v) m
    else if bytes_eq name (codes "size") then checked (size_of line most_bytes v) m
    else if bytes_eq name (codes "cached") then integer_looked_at line v m
    else give tt m

abbrev pub store_looked_at : ℕ → List ℕ → Value → Step (Unit {0})
store_looked_at line name v m =
    if bytes_eq name (codes "name") then name_looked_at line v m
    else if bytes_eq name (codes "origin") then checked (origin_of line v) m
    else if bytes_eq name (codes "size") then checked (size_of line most_stored v) m
    else contents_looked_at line v m

abbrev pub slave_looked_at : ℕ → List ℕ → Value → Step (Unit {0})
slave_looked_at line name v m =
    if bytes_eq name (codes "name") then name_looked_at line v m
    else if bytes_eq name (codes "slave") then checked (interface_of line v) m
    else checked (region_of line v) m

abbrev pub number_looked_at : ℕ → List ℕ → Value → Step (Unit {0})
number_looked_at line name v m = if bytes_eq name (codes "name") then name_looked_at line v m else checked (number_of line v) m

abbrev pub constant_looked_at : ℕ → List ℕ → Value → Step (Unit {0})
constant_looked_at line name v m = if bytes_eq name (codes "name") then name_looked_at line v m else checked (constant_value line v) m

-- ---- all arguments of a call

abbrev pub argument_looked_at : ℕ → Request → List ℕ → Value → Step (Unit {0})
argument_looked_at line request.Options name v m = init_looked_at line name v m
argument_looked_at line request.Region name v m = region_looked_at line name v m
argument_looked_at line request.Store name v m = store_looked_at line name v m
argument_looked_at line request.Slave name v m = slave_looked_at line name v m
argument_looked_at line request.Number name v m = number_looked_at line name v m
argument_looked_at line request.Constant name v m = constant_looked_at line name v m
argument_looked_at line request.Interface name v m = give tt m

abbrev pub name_and : List ℕ → List Param
name_and other = required (codes "name") ∷ optional other ∷ []

-- the parameters of a call, in their order
abbrev pub params_of : Request → List Param
params_of request.Options = optional (codes "csr_data_width") ∷ optional (codes "csr_ordering") ∷ optional (codes "csr_paging") ∷ optional (codes "csr_base") ∷ []
params_of request.Region = optional (codes "origin") ∷ required (codes "size") ∷ optional (codes "cached") ∷ named_only (codes "mode") ∷ []
params_of request.Store = required (codes "name") ∷ required (codes "origin") ∷ required (codes "size") ∷ optional (codes "contents") ∷ []
params_of request.Slave = required (codes "name") ∷ required (codes "slave") ∷ required (codes "region") ∷ []
params_of request.Number = name_and (codes "n")
params_of request.Constant = name_and (codes "value")
params_of request.Interface = named_only (codes "mode") ∷ []

abbrev pub param_at : List Param → ℕ → List ℕ
param_at params i = elim (slice_get params i) as (λ _. List ℕ) [ None ↦ [] | Some p ↦ p.name ]

-- arguments without names, from the i-th on
unfoldable pub placed_looked_at : ℕ → Request → List Param → ℕ → List Value → Step (Unit {0})
placed_looked_at line of params i [] = give tt
placed_looked_at line of params i (v ∷ vs) = do
  _ ← argument_looked_at line of (param_at params i) v
  placed_looked_at line of params (i + 1) vs

-- and those with names, in the order of the text
unfoldable pub named_looked_at : ℕ → Request → List (List ℕ) → ℕ → List Value → Step (Unit {0})
named_looked_at line of names i [] = give tt
named_looked_at line of names i (v ∷ vs) = do
  _ ← argument_looked_at line of (name_there names i) v
  named_looked_at line of names (i + 1) vs

-- the argument of each parameter, each looked at by itself
unfoldable pub asked_with : ℕ → Request → Arguments → Step (List (Option Value))
asked_with line of args = do
  values ← bound_to line (params_of of) args
  _ ← placed_looked_at line of (params_of of) 0 args.placed
  _ ← named_looked_at line of args.names 0 args.named
  give values

-- ---- calls

-- `super().__init__(csr_data_width=32, csr_ordering="big", csr_paging=0x800, csr_base=0xf0000000)` of a system; the last one counts
unfoldable pub options_called : ℕ → Arguments → Step Value
options_called line args = do
  values ← asked_with line request.Options args
  base ← base_or line (argument values 3)
  set_base line base

-- `SoCRegion(origin=None, size, cached=True, mode=)`
unfoldable pub region_called : ℕ → Arguments → Step Value
region_called line args = do
  values ← asked_with line request.Region args
  origin ← origin_or line (argument values 0)
  stated ← given line values 1
  size ← size_of line most_bytes stated
  cached ← integer_or line (pos 1) (argument values 2)
  region_made line (record { origin = origin; size = size; cached = not (is_zero cached) })

-- `wishbone.Interface(mode=)`
unfoldable pub interface_called : ℕ → Arguments → Step Value
interface_called line args = do
  _ ← asked_with line request.Interface args
  interface_made line

-- no more contents than words
abbrev pub store_within : ℕ → Bool → List ℕ → Option ℕ → ℕ → List ℤ → Step Value
store_within line writes name origin size contents m =
    if nat_lt (words_of size) (length contents) then fault line kind.WrongCount m else store_made line writes name origin size contents m

-- `add_ram(name, origin, size, contents=[])`, and `add_rom(..)`
unfoldable pub store_called : ℕ → Bool → Arguments → Step Value
store_called line writes args = do
  values ← asked_with line request.Store args
  first ← given line values 0
  name ← identifier_of line first
  origin ← origin_or line (argument values 1)
  stated ← given line values 2
  size ← size_of line most_stored stated
  contents ← contents_or line (argument values 3)
  store_within line writes name origin size contents

-- `bus.add_slave(name, slave, region)`
unfoldable pub add_slave_called : ℕ → Arguments → Step Value
add_slave_called line args = do
  values ← asked_with line request.Slave args
  first ← given line values 0
  name ← identifier_of line first
  second ← given line values 1
  k ← interface_of line second
  third ← given line values 2
  r ← region_of line third
  slave_added line name k r

unfoldable pub wish_of : ℕ → Arguments → Step Fix
wish_of line args = do
  values ← asked_with line request.Number args
  first ← given line values 0
  name ← identifier_of line first
  number ← number_or line (argument values 1)
  give (record { name = name; number = number; line = line })

-- `csr.add(name, n=None)`
unfoldable pub add_bank_called : ℕ → Arguments → Step Value
add_bank_called line args = do
  wish ← wish_of line args
  bank_added wish

-- `irq.add(name, n=None)`
unfoldable pub add_interrupt_called : ℕ → Arguments → Step Value
add_interrupt_called line args = do
  wish ← wish_of line args
  interrupt_added wish

abbrev pub constant_or : ℕ → Option Value → Step ConstValue
constant_or line None m = give constant.Nothing m
constant_or line (Some v) m = constant_value line v m

-- `add_constant(name, value=None)`
unfoldable pub add_constant_called : ℕ → Arguments → Step Value
add_constant_called line args = do
  values ← asked_with line request.Constant args
  first ← given line values 0
  name ← identifier_of line first
  v ← constant_or line (argument values 1)
  constant_added line name v
