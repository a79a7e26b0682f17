-- `Memory`, and the method `get_port` of a memory.
use Rattle.std.specs.Prelude.{ℕ, ℤ, pos, negsuc, Bool, true, false, not, ◌&&◌, ◌+◌, ◌%◌, nat_eq, nat_le, nat_lt, if◌then◌else◌, List, [], ◌∷◌, length, Option, Some, None, codes}
use Rattle.std.specs.Str.{bytes_eq}
use Rattle.lx_text.specs.declared.faults.Kind.TheVariants as kind
use Rattle.lx_num.specs.Fewest.{magnitude_of}
use Rattle.lx_value.specs.declared.arguments.Param.{Param}
use Rattle.lx_fhdl.specs.declared.design.PortMode.{PortMode}
use Rattle.lx_fhdl.specs.declared.design.PortMode.TheVariants as mode
use Rattle.lx_state.specs.declared.values.Builtin.{Builtin}
use Rattle.lx_state.specs.declared.values.Builtin.TheVariants as builtin
use Rattle.lx_state.specs.declared.values.Value.{Value}
use Rattle.lx_state.specs.declared.values.Value.TheVariants as value
use Rattle.lx_state.specs.Lists.{int_of, ints_of, list_of}
use Rattle.lx_state.specs.Step.{Step, give, fault, or_fault, ◌>>=◌}
use Rattle.lx_objects.specs.Memories.{extent_of, memory_made, port_made}
use Rattle.lx_builtins.specs.Arguments.{argument, bound_to, given, optional, required}
use Rattle.lx_builtins.specs.Domains.{domain_or, name_there}
use Rattle.lx_builtins.specs.Numbers.{is_zero}
use Rattle.lx_builtins.specs.Signals.{integer_looked_at, integer_or, is_size, name_looked_at, sized}
use Rattle.lx_builtins.specs.declared.arguments.Arguments.{Arguments}
use Rattle.lx_builtins.specs.declared.memories.Callee.{Callee}
use Rattle.lx_builtins.specs.declared.memories.Callee.TheVariants as callee

-- ---- the arguments of `Memory`, each by itself

abbrev pub memory_names : List (List ℕ)
memory_names = codes "width" ∷ codes "depth" ∷ codes "init" ∷ []

abbrev pub memory_params : List Param
memory_params = required (codes "width") ∷ required (codes "depth") ∷ optional (codes "init") ∷ []

-- a word has as many bits as a signal may have
unfoldable pub width_looked_at : ℕ → Value → Step (Unit {0})
width_looked_at line v = do
  n ← int_of line v
  sized line n

-- a memory has 1 to 65,536 words
abbrev pub is_depth : ℤ → Bool
is_depth (pos n) = nat_le 1 n && nat_le n 65536
is_depth (negsuc n) = false

abbrev pub deep : ℕ → ℤ → Step (Unit {0})
deep line n m = if is_depth n then give tt m else fault line kind.BadWidth m

unfoldable pub depth_looked_at : ℕ → Value → Step (Unit {0})
depth_looked_at line v = do
  n ← int_of line v
  deep line n

-- a list of integers
unfoldable pub contents_of : ℕ → Value → Step (List ℤ)
contents_of line v = do
  values ← list_of line v
  ints_of line values

unfoldable pub contents_looked_at : ℕ → Value → Step (Unit {0})
contents_looked_at line v = do
  _ ← contents_of line v
  give tt

abbrev pub memory_looked_at : ℕ → List ℕ → Value → Step (Unit {0})
memory_looked_at line name v m =
    if bytes_eq name (codes "width") then width_looked_at line v m
    else if bytes_eq name (codes "depth") then depth_looked_at line v m
    else contents_looked_at line v m

-- ---- the arguments of `get_port`, each by itself

abbrev pub port_names : List (List ℕ)
port_names = codes "write_capable" ∷ codes "async_read" ∷ codes "we_granularity" ∷ codes "mode" ∷ codes "clock_domain" ∷ []

abbrev pub port_params : List Param
port_params = optional (codes "write_capable") ∷ optional (codes "async_read") ∷ optional (codes "we_granularity") ∷ optional (codes "mode") ∷ optional (codes "clock_domain") ∷ []

-- parts of so many bits make up a word
abbrev pub divides : ℕ → ℕ → Bool
divides part width = nat_le 1 part && (nat_le part width && nat_eq (width % part) 0)

-- the bits of the parts of a word of this width; 0 stands for the whole word
abbrev pub part_of : ℕ → ℤ → Option ℕ
part_of width (pos n) = if nat_eq n 0 then Some width else if divides n width then Some n else None
part_of width (negsuc n) = None

abbrev pub part_fits : ℕ → ℕ → ℤ → Step ℕ
part_fits line width n = or_fault (part_of width n) line kind.BadWidth

unfoldable pub part_looked_at : ℕ → ℕ → Value → Step (Unit {0})
part_looked_at line width v = do
  n ← int_of line v
  _ ← part_fits line width n
  give tt

abbrev pub builtin_mode : Builtin → Option PortMode
builtin_mode builtin.WriteFirst = Some mode.WriteFirst
builtin_mode builtin.ReadFirst = Some mode.ReadFirst
builtin_mode builtin.NoChange = Some mode.NoChange
builtin_mode _ = None

abbrev pub mode_there : Value → Option PortMode
mode_there (value.Builtin b) = builtin_mode b
mode_there _ = None

unfoldable pub mode_of : ℕ → Value → Step PortMode
mode_of line v = or_fault (mode_there v) line kind.WrongKind

unfoldable pub mode_looked_at : ℕ → Value → Step (Unit {0})
mode_looked_at line v = do
  _ ← mode_of line v
  give tt

abbrev pub port_looked_at : ℕ → ℕ → List ℕ → Value → Step (Unit {0})
port_looked_at line width name v m =
    if bytes_eq name (codes "we_granularity") then part_looked_at line width v m
    else if bytes_eq name (codes "mode") then mode_looked_at line v m
    else if bytes_eq name (codes "clock_domain") then name_looked_at line v m
    else integer_looked_at line v m

-- ---- all arguments of a call

abbrev pub argument_looked_at : ℕ → Callee → List ℕ → Value → Step (Unit {0})
argument_looked_at line callee.Memory name v m = memory_looked_at line name v m
argument_looked_at line (callee.GetPort width) name v m = port_looked_at line width name v m

-- arguments that are bound to these names, from the i-th name on
unfoldable pub arguments_looked_at : ℕ → Callee → List (List ℕ) → ℕ → List Value → Step (Unit {0})
arguments_looked_at line of names i [] = give tt
arguments_looked_at line of names i (v ∷ vs) = do
  _ ← argument_looked_at line of (name_there names i) v
  arguments_looked_at line of names (i + 1) vs

-- the argument that stands first has the first fault
unfoldable pub call_looked_at : ℕ → Callee → List (List ℕ) → Arguments → Step (Unit {0})
call_looked_at line of names args = do
  _ ← arguments_looked_at line of names 0 args.placed
  arguments_looked_at line of args.names 0 args.named

-- ---- `Memory`

abbrev pub contents_or : ℕ → Option Value → Step (List ℤ)
contents_or line None m = give [] m
contents_or line (Some v) m = contents_of line v m

-- no more contents than words
abbrev pub memory_within : ℕ → ℤ → ℤ → List ℤ → Step Value
memory_within line width depth contents m =
    if not (is_size width && is_depth depth) then fault line kind.BadWidth m
    else if nat_lt (magnitude_of depth) (length contents) then fault line kind.WrongCount m
    else memory_made line (magnitude_of width) (magnitude_of depth) contents m

unfoldable pub memory_from : ℕ → Value → Value → Option Value → Step Value
memory_from line width depth init = do
  w ← int_of line width
  n ← int_of line depth
  contents ← contents_or line init
  memory_within line w n contents

-- `Memory(width, depth, init=[])`
unfoldable pub memory_called : ℕ → Arguments → Step Value
memory_called line args = do
  values ← bound_to line memory_params args
  _ ← call_looked_at line callee.Memory memory_names args
  width ← given line values 0
  depth ← given line values 1
  memory_from line width depth (argument values 2)

-- ---- `get_port`

abbrev pub mode_or : ℕ → Option Value → Step PortMode
mode_or line None m = give mode.WriteFirst m
mode_or line (Some v) m = mode_of line v m

-- a port that reads at once has no other mode
abbrev pub port_mode : ℤ → PortMode → PortMode
port_mode async_read stated = if is_zero async_read then stated else mode.Async

unfoldable pub port_from : ℕ → ℕ → ℕ → List (Option Value) → Step Value
port_from line memory width values = do
  writes ← integer_or line (pos 0) (argument values 0)
  async_read ← integer_or line (pos 0) (argument values 1)
  granularity ← integer_or line (pos 0) (argument values 2)
  part ← part_fits line width granularity
  stated ← mode_or line (argument values 3)
  name ← domain_or line (argument values 4)
  port_made line (record { memory = memory; writes = not (is_zero writes); mode = port_mode async_read stated; part = part }) name

-- `get_port(write_capable=False, async_read=False, we_granularity=0, mode=WRITE_FIRST, clock_domain="sys")`
unfoldable pub get_port_called : ℕ → ℕ → Arguments → Step Value
get_port_called line memory args = do
  values ← bound_to line port_params args
  extent ← extent_of line memory
  _ ← call_looked_at line (callee.GetPort extent.width) port_names args
  port_from line memory extent.width values
