-- The first fault of a design's drivers and of its memories.
use Rattle.std.specs.Prelude.{ℕ, Bool, true, ◌+◌, ◌||◌, List, [], Option, Some, None, length, map, not, nat_eq, option_map, slice_get, if◌then◌else◌}
use Rattle.std.proofs.Common.{zero, suc}
use Rattle.std.specs.List.{filter, find}
use Rattle.std.specs.Option.{is_some, option_and_then, option_or}
use Rattle.lx_circuit.specs.Circuit.{is_named, made}
use Rattle.lx_fhdl.specs.Designs.{circuit_of, signal_number}
use Rattle.lx_fhdl.specs.declared.design.Design.{Design}
use Rattle.lx_fhdl.specs.declared.design.Memory.{Memory}
use Rattle.lx_fhdl.specs.declared.design.Port.{Port}
use Rattle.lx_fhdl.specs.declared.design.Signal.{Signal}
use Rattle.lx_namer.specs.Base.{base_name}
use Rattle.lx_reads.specs.Drivings.{Driving, drivings, first_driving}
use Rattle.lx_text.specs.declared.faults.Fault.{Fault}
use Rattle.lx_text.specs.declared.faults.Kind.{Kind}
use Rattle.lx_text.specs.declared.faults.Kind.TheVariants.{StorageDriven, TwoDrivers, MemoryClocks}

abbrev pub fault : ℕ → Kind → Fault
fault line kind = record { line = line; kind = kind }

-- the first fault of so many things
abbrev pub first_of : (ℕ → Option Fault) → ℕ → Option Fault
first_of f zero = None
first_of f (suc n) = option_or (first_of f n) (f n)

-- ---- signals

abbrev pub name_of : Option Signal → List ℕ
name_of None = base_name []
name_of (Some s) = base_name s.path

-- the base name of a signal
abbrev pub signal_name : Design → ℕ → List ℕ
signal_name d x = name_of (slice_get d.signals x)

-- any
abbrev pub any_driving : Driving → Bool
any_driving a = true

-- a statement of the description
abbrev pub is_described : Driving → Bool
is_described a = not (nat_eq a.line 0)

-- it has another driver
abbrev pub is_apart : Driving → Driving → Bool
is_apart a b = not (nat_eq b.driver a.driver)

-- the first that drives a signal by another driver than the first one
abbrev pub second_driving : ℕ → List Driving → Option Driving
second_driving x all = option_and_then (λ (a : Driving). first_driving x (is_apart a) all) (first_driving x any_driving all)

-- the first port whose dat_r a signal is
abbrev pub is_reader : ℕ → Port → Bool
is_reader x q = is_named x (option_map signal_number q.dat_r)

abbrev pub reader_of : Design → ℕ → Option Port
reader_of d x = find (is_reader x) d.ports

-- an output of a register, an event, a slave or a port
abbrev pub is_output : Design → ℕ → Bool
is_output d x = (made (circuit_of d) x).given || is_some (reader_of d x)

-- a statement of the description drives such an output
abbrev pub storage_driven : Design → ℕ → Option Fault
storage_driven d x =
    if is_output d x
    then option_map (λ (a : Driving). fault a.line (StorageDriven (signal_name d x))) (first_driving x is_described (drivings d))
    else None

-- a signal has two drivers
abbrev pub two_drivers : Design → ℕ → Option Fault
two_drivers d x =
    option_and_then
    (λ (a : Driving). option_map (λ (b : Driving). fault b.line (TwoDrivers (signal_name d x) a.line)) (second_driving x (drivings d)))
    (first_driving x any_driving (drivings d))

-- ---- memories

-- a port that writes drives its memory, by its clock domain
abbrev pub clock_driver : Option ℕ → ℕ
clock_driver None = 0
clock_driver (Some k) = k + 1

abbrev pub writing : Port → Driving
writing q = record { signal = q.memory; driver = clock_driver q.domain; line = 0 }

abbrev pub writes : Port → Bool
writes q = is_some q.we

abbrev pub writings : List Port → List Driving
writings ports = map writing (filter writes ports)

abbrev pub memory_fault : Option Memory → Option Fault
memory_fault None = None
memory_fault (Some m) = Some (fault m.line (MemoryClocks (base_name m.path)))

-- a memory is written in two domains
abbrev pub memory_clocks : Design → ℕ → Option Fault
memory_clocks d m = if is_some (second_driving m (writings d.ports)) then memory_fault (slice_get d.memories m) else None

-- The first fault of the drivers and of the memories.
unfoldable pub first_fault : Design → Option Fault
first_fault d =
    option_or (first_of (storage_driven d) (length d.signals))
    (option_or (first_of (two_drivers d) (length d.signals)) (first_of (memory_clocks d) (length d.memories)))
