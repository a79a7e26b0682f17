-- The names of a design: one for each signal, then one for each memory.
use Rattle.std.specs.Prelude.{ℕ, Bool, true, false, ◌||◌, List, [], ◌∷◌, ◌++◌, Option, Some, None, Result, Ok, Err, map, length, codes, slice_get, if◌then◌else◌}
use Rattle.std.specs.List.{flat_map, range_with_len}
use Rattle.lx_text.specs.declared.faults.Fault.{Fault}
use Rattle.lx_text.specs.declared.faults.Kind.TheVariants as kind
use Rattle.lx_vtext.specs.Tree.{Name}
use Rattle.lx_vtext.specs.Printed.{number_text}
use Rattle.lx_fhdl.specs.declared.exprs.SigId.{SigId}
use Rattle.lx_fhdl.specs.declared.design.Signal.{Signal}
use Rattle.lx_fhdl.specs.declared.design.Memory.{Memory}
use Rattle.lx_fhdl.specs.declared.design.Domain.{Domain}
use Rattle.lx_fhdl.specs.declared.design.Design.{Design}
use Rattle.lx_emission.specs.Naming.{clock_name, is_among}
use Rattle.lx_emission.specs.Emission.{is_port}
use Rattle.lx_namer.specs.Base.{base_name}
use Rattle.lx_namer.specs.Taken.{free_name}

-- ---- the names that are asked for

-- the base name of the path; generated hardware, which has no path, has a mark and its place
abbrev pub name_or_place : Name → ℕ → List Name → Name
name_or_place mark k [] = mark ++ number_text k
name_or_place mark k (word ∷ words) = base_name (word ∷ words)

abbrev pub has_no_path : List Name → Bool
has_no_path [] = true
has_no_path (word ∷ words) = false

abbrev pub signal_path : Option Signal → List Name
signal_path None = []
signal_path (Some s) = s.path

abbrev pub memory_path : Option Memory → List Name
memory_path None = []
memory_path (Some m) = m.path

unfoldable pub own_name : Design → ℕ → Name
own_name d x = name_or_place (codes "s$") x (signal_path (slice_get d.signals x))

unfoldable pub own_memory_name : Design → ℕ → Name
own_memory_name d k = name_or_place (codes "m$") k (memory_path (slice_get d.memories k))

-- a name that is asked for; it is the only one that will do, or else it may get a number
pub record Wish : Type 0 where
  pub name : Name
  pub only : Bool

-- ports, resets and generated hardware have their own names
unfoldable pub signal_wish : Design → ℕ → Wish
signal_wish d x = record { name = own_name d x; only = has_no_path (signal_path (slice_get d.signals x)) || is_port d x }

unfoldable pub memory_wish : Design → ℕ → Wish
memory_wish d k = record { name = own_memory_name d k; only = has_no_path (memory_path (slice_get d.memories k)) }

-- in the order of creation
abbrev pub signal_wishes : Design → ℕ → List Wish
signal_wishes d n = map (signal_wish d) (range_with_len 0 n)

abbrev pub memory_wishes : Design → ℕ → List Wish
memory_wishes d n = map (memory_wish d) (range_with_len 0 n)

-- ---- the names that are given

unfoldable pub given : List Name → Wish → Name
given taken w = if w.only then w.name else free_name taken w.name

-- one after another; each name that is given is taken
unfoldable pub all_given : List Name → List Wish → List Name
all_given taken [] = []
all_given taken (w ∷ ws) = given taken w ∷ all_given (taken ++ given taken w ∷ []) ws

-- ---- reserved names, and ports

abbrev pub reset_names : Design → Option SigId → List Name
reset_names d None = []
reset_names d (Some r) = own_name d r.0 ∷ []

-- a domain's clock, and its reset where it has one
abbrev pub domain_names : Design → Domain → List Name
domain_names d x = clock_name x.name ∷ reset_names d x.reset

unfoldable pub reserved : Design → List Name
reserved d = flat_map (domain_names d) d.domains

abbrev pub line_of : Option Signal → ℕ
line_of None = 0
line_of (Some s) = s.line

abbrev pub name_taken : Design → SigId → Fault
name_taken d x = record { line = line_of (slice_get d.signals x.0); kind = kind.NameTaken (own_name d x.0) }

-- the first port whose own name is taken
unfoldable pub port_fault : Design → List Name → List SigId → Option Fault
port_fault d taken [] = None
port_fault d taken (x ∷ xs) = if is_among (own_name d x.0) taken then Some (name_taken d x) else port_fault d (taken ++ own_name d x.0 ∷ []) xs

abbrev pub port_names : Design → List SigId → List Name
port_names d xs = map (λ (x : SigId). own_name d x.0) xs

-- what is taken before any other name is given
abbrev pub taken_first : Design → List Name
taken_first d = reserved d ++ port_names d d.ios

-- ---- all names

-- the signals, then the memories
abbrev pub all_wishes : Design → List Wish
all_wishes d = signal_wishes d (length d.signals) ++ memory_wishes d (length d.memories)

abbrev pub unless : Option Fault → List Name → Result (List Name) Fault
unless None names = Ok names
unless (Some f) names = Err f

unfoldable pub names_of : Design → Result (List Name) Fault
names_of d = unless (port_fault d (reserved d) d.ios) (all_given (taken_first d) (all_wishes d))
