-- Systems: the ports of their bus, the places that they wish for, what answers there, and their constants.
use Rattle.std.specs.Prelude.{ℕ, ℤ, pos, Bool, true, false, ◌+◌, ◌/◌, List, [], ◌∷◌, ◌++◌, length, map, codes, slice_get, Option, Some, None}
use Rattle.lx_text.specs.declared.faults.LimitKind.TheVariants as limit
use Rattle.lx_text.specs.declared.faults.Kind.TheVariants as kind
use Rattle.lx_fhdl.specs.declared.exprs.SigId.{SigId}
use Rattle.lx_fhdl.specs.declared.places.Fix.{Fix}
use Rattle.lx_fhdl.specs.declared.places.RegionWish.{RegionWish}
use Rattle.lx_description.specs.Wires.{BusPort, Wire, bus_ports, interface_wires, left}
use Rattle.lx_description.specs.declared.modules.ConstValue.{ConstValue}
use Rattle.lx_description.specs.declared.slaves.SlaveDecl.{SlaveDecl}
use Rattle.lx_description.specs.declared.slaves.SlaveKind.{SlaveKind}
use Rattle.lx_description.specs.declared.slaves.SlaveKind.TheVariants as slave
use Rattle.lx_state.specs.declared.machine.InterfaceState.{InterfaceState}
use Rattle.lx_state.specs.declared.machine.Object.{Object}
use Rattle.lx_state.specs.declared.machine.RegionState.{RegionState}
use Rattle.lx_state.specs.declared.machine.What.TheVariants as what
use Rattle.lx_state.specs.declared.values.Value.{Value}
use Rattle.lx_state.specs.declared.values.Value.TheVariants as value
use Rattle.lx_state.specs.Changes.{changed}
use Rattle.lx_state.specs.Naming.{object_made}
use Rattle.lx_state.specs.Step.{Step, give, or_fault, reads, ◌>>=◌}
use Rattle.lx_state.specs.Work.{one_more}
use Rattle.lx_objects.specs.Domains.{declare}
use Rattle.lx_objects.specs.Memories.{memory_count, spend_words, word_of}
use Rattle.lx_objects.specs.Registers.{pin_reads, pin_signals, wire_signal, wires_made}
use Rattle.lx_objects.specs.Signals.{signal_made}
use Rattle.lx_objects.specs.declared.registers.Pin.{Pin}

-- ---- how a system begins

-- a port has its name for a path, and no line of the text makes it
unfoldable pub port_made : BusPort → Step Value
port_made p = signal_made 0 (wire_signal 0 (left p.bits (pos 0))) (Some p.name)

unfoldable pub ports_made : List BusPort → Step (Unit {0})
ports_made [] = give tt
ports_made (p ∷ ps) = do
  _ ← port_made p
  ports_made ps

-- with the ports of its bus, and with the domain `sys`, which has a reset whatever the text declares
unfoldable pub system_begun : Step (Unit {0})
system_begun = do
  _ ← ports_made bus_ports
  declare 0 (codes "sys") true

-- `super().__init__(..)`
unfoldable pub set_base : ℕ → ℕ → Step Value
set_base line base m = give value.Nothing (record m { system = record m.system { base = base; line = line } })

-- ---- regions

-- `SoCRegion(..)`
unfoldable pub region_made : ℕ → RegionState → Step Value
region_made line r = do
  k ← reads (λ m. length m.regions)
  object ← object_made (what.Region k) line None
  λ m. give (value.Object object) (record m { regions = m.regions ++ r ∷ [] })

unfoldable pub keep_region : RegionWish → SlaveDecl → Step (Unit {0})
keep_region w s m = give tt (record m { system = record m.system { regions = m.system.regions ++ w ∷ []; slaves = m.system.slaves ++ s ∷ [] } })

-- a region, and what answers there; that of the registers is one too
unfoldable pub add_region : ℕ → List ℕ → RegionState → SlaveKind → Step Value
add_region line name r answers m = (do
  _ ← one_more line limit.Regions (length m.system.regions + 1)
  _ ← keep_region (record { name = name; origin = r.origin; size = r.size; cached = r.cached; line = line }) (record { name = name; kind = answers; line = line })
  give value.Nothing) m

-- ---- memories on the bus

-- of 32 bits each
abbrev pub words_of : ℕ → ℕ
words_of size = (size + 3) / 4

abbrev pub store_of : Bool → List ℕ → SlaveKind
store_of true words = slave.Ram words
store_of false words = slave.Rom words

-- `add_ram(..)`, and `add_rom(..)`, which the bus can't write
unfoldable pub store_made : ℕ → Bool → List ℕ → Option ℕ → ℕ → List ℤ → Step Value
store_made line writes name origin size contents = do
  count ← reads memory_count
  _ ← one_more line limit.Memories count
  _ ← spend_words line (words_of size)
  add_region line name (record { origin = origin; size = size; cached = true }) (store_of writes (map (word_of 32) contents))

-- ---- interfaces

abbrev pub interface_parts : List (List ℕ)
interface_parts =
    codes "adr" ∷ codes "dat_w" ∷ codes "dat_r" ∷ codes "sel" ∷ codes "cyc"
    ∷ codes "stb" ∷ codes "we" ∷ codes "ack" ∷ codes "err" ∷ []

-- nothing gives its signals before it is handed to the bus
abbrev pub plain_wire : Wire → Wire
plain_wire w = record w { given = false }

abbrev pub new_interface : List Pin → InterfaceState
new_interface pins = record { signals = pin_signals pins; reads = pin_reads pins; handed = false }

unfoldable pub keep_interface : InterfaceState → Step (Unit {0})
keep_interface x m = give tt (record m { interfaces = m.interfaces ++ x ∷ [] })

-- `wishbone.Interface()`
unfoldable pub interface_made : ℕ → Step Value
interface_made line = do
  k ← reads (λ m. length m.interfaces)
  object ← object_made (what.Interface k) line None
  pins ← wires_made line object (map plain_wire interface_wires) interface_parts
  _ ← keep_interface (new_interface pins)
  give (value.Object object)

abbrev pub free_signals : Option InterfaceState → Option (List SigId)
free_signals None = None
free_signals (Some x) = elim x.handed as (λ _. Option (List SigId)) [ true ↦ None | false ↦ Some x.signals ]

abbrev pub handed_over : InterfaceState → InterfaceState
handed_over x = record x { handed = true }

unfoldable pub hand_over : ℕ → Step (Unit {0})
hand_over k m = give tt (record m { interfaces = changed m.interfaces k handed_over })

-- an interface is handed over once
unfoldable pub some_signals : ℕ → ℕ → Step (List SigId)
some_signals line k m = or_fault (free_signals (slice_get m.interfaces k)) line kind.WrongKind m

-- `bus.add_slave(..)`
unfoldable pub slave_added : ℕ → List ℕ → ℕ → RegionState → Step Value
slave_added line name k r = do
  signals ← some_signals line k
  _ ← hand_over k
  add_region line name r (slave.User signals)

-- ---- numbers and constants

-- `csr.add(..)`
unfoldable pub bank_added : Fix → Step Value
bank_added f m = give value.Nothing (record m { system = record m.system { fixes = m.system.fixes ++ f ∷ [] } })

-- `irq.add(..)`
unfoldable pub interrupt_added : Fix → Step Value
interrupt_added f m = give value.Nothing (record m { system = record m.system { irqs = m.system.irqs ++ f ∷ [] } })

-- `add_constant(..)`
unfoldable pub constant_added : ℕ → List ℕ → ConstValue → Step Value
constant_added line name v m = give value.Nothing (record m { system = record m.system { constants = m.system.constants ++ record { name = name; value = v; line = line } ∷ [] } })
