-- The signals of a description's declarations.
use Rattle.std.specs.Prelude.{◌≡◌, ℕ, ℤ, pos, Bool, true, false, List, [], ◌∷◌, ◌++◌, Option, Some, None, map, flat_map, slice_get, IsSomeAnd, codes}
use Rattle.lx_num.specs.Ints.{unsigned, wrapped}
use Rattle.lx_fhdl.specs.Designs.{signal_number}
use Rattle.lx_fhdl.specs.declared.exprs.SigId.{SigId}
use Rattle.lx_fhdl.specs.declared.design.Signal.{Signal}
use Rattle.lx_fhdl.specs.declared.design.Port.{Port}
use Rattle.lx_fhdl.specs.declared.design.Domain.{Domain}
use Rattle.lx_fhdl.specs.declared.design.Design.{Design}
use Rattle.lx_description.specs.declared.registers.Field.{Field}
use Rattle.lx_description.specs.declared.registers.RegKind.{RegKind}
use Rattle.lx_description.specs.declared.registers.RegKind.TheVariants as kind
use Rattle.lx_description.specs.declared.registers.RegDecl.{RegDecl}
use Rattle.lx_description.specs.declared.registers.SourceDecl.{SourceDecl}
use Rattle.lx_description.specs.declared.registers.ManagerDecl.{ManagerDecl}
use Rattle.lx_description.specs.declared.modules.Part.{Part}
use Rattle.lx_description.specs.declared.modules.Part.TheVariants as part
use Rattle.lx_description.specs.declared.modules.ModuleDecl.{ModuleDecl}
use Rattle.lx_description.specs.declared.slaves.SlaveKind.{SlaveKind}
use Rattle.lx_description.specs.declared.slaves.SlaveKind.TheVariants as slave
use Rattle.lx_description.specs.declared.slaves.SlaveDecl.{SlaveDecl}
use Rattle.lx_description.specs.declared.fsms.Asked.{Asked}
use Rattle.lx_description.specs.declared.fsms.FsmDecl.{FsmDecl}
use Rattle.lx_description.specs.declared.description.Description.{Description}

-- ---- what they look like

-- an unsigned signal of so many bits with its first value; one that is given has its value from the bus
pub record Wire : Type 0 where
  pub bits : ℕ
  pub reset : ℤ
  pub given : Bool

-- given by the bus, or a register, source or manager
abbrev pub given : ℕ → ℤ → Wire
given bits reset = record { bits = bits; reset = reset; given = true }

-- left to the circuit
abbrev pub left : ℕ → ℤ → Wire
left bits reset = record { bits = bits; reset = reset; given = false }

-- `we` and `dat_w` of a storage that the circuit may write
abbrev pub device_wires : ℕ → Bool → List Wire
device_wires size true = left 1 (pos 0) ∷ left size (pos 0) ∷ []
device_wires size false = []

-- `storage` and `re`; `status` and `we`; `r`, `re`, `w`, `we`; those of the fields come last
abbrev pub register_wires : RegDecl → RegKind → List Wire
register_wires r kind.Storage =
    given r.size r.reset ∷ given 1 (pos 0) ∷ (device_wires r.size r.from_dev ++ map (λ (f : Field). given f.size f.reset) r.fields)
register_wires r kind.Status = left r.size r.reset ∷ given 1 (pos 0) ∷ map (λ (f : Field). left f.size f.reset) r.fields
register_wires r kind.Raw = given r.size (pos 0) ∷ given 1 (pos 0) ∷ left r.size (pos 0) ∷ given 1 (pos 0) ∷ []
register_wires r kind.Pending = []

-- `trigger`, `status`, `pending`, `clear`
abbrev pub source_wires : List Wire
source_wires = left 1 (pos 0) ∷ given 1 (pos 0) ∷ given 1 (pos 0) ∷ given 1 (pos 0) ∷ []

-- `adr`, `dat_w`, `dat_r`, `sel`, `cyc`, `stb`, `we`, `ack`, `err` of a slave's interface
abbrev pub interface_wires : List Wire
interface_wires =
    given 30 (pos 0) ∷ given 32 (pos 0) ∷ left 32 (pos 0)
    ∷ given 4 (pos 0) ∷ given 1 (pos 0) ∷ given 1 (pos 0) ∷ given 1 (pos 0)
    ∷ left 1 (pos 0) ∷ left 1 (pos 0) ∷ []

pub record IsWire (s : Signal) (w : Wire) : Type 0 where
  pub shape : s.shape ≡ unsigned w.bits
  pub reset : s.reset ≡ wrapped (unsigned w.bits) w.reset
  pub resets : s.reset_less ≡ false
  pub given : s.by_bus ≡ w.given

abbrev pub HasWire : Design → SigId → Wire → Type 0
HasWire d x w = IsSomeAnd (slice_get d.signals x.0) (λ s. IsWire s w)

-- these signals are such, one by one
abbrev pub HasWires : Design → List SigId → List Wire → Type 0
HasWires d [] [] = Unit {0}
HasWires d (x ∷ xs) (w ∷ ws) = HasWire d x w × HasWires d xs ws
HasWires d _ _ = ⊥

-- ---- the ports of the bus

pub record BusPort : Type 0 where
  pub name : List ℕ
  pub bits : ℕ

abbrev pub bus_port : List ℕ → ℕ → BusPort
bus_port name bits = record { name = name; bits = bits }

unfoldable pub bus_ports : List BusPort
bus_ports =
    bus_port (codes "wb_adr") 30 ∷ bus_port (codes "wb_dat_w") 32 ∷ bus_port (codes "wb_sel") 4
    ∷ bus_port (codes "wb_cyc") 1 ∷ bus_port (codes "wb_stb") 1 ∷ bus_port (codes "wb_we") 1
    ∷ bus_port (codes "wb_dat_r") 32 ∷ bus_port (codes "wb_ack") 1 ∷ bus_port (codes "wb_err") 1
    ∷ bus_port (codes "irq") 32 ∷ []

-- the first signals are these ports
abbrev pub AreBusPorts : List Signal → List BusPort → Type 0
AreBusPorts ss [] = Unit {0}
AreBusPorts [] (p ∷ ps) = ⊥
AreBusPorts (s ∷ ss) (p ∷ ps) = ((s.path ≡ p.name ∷ []) × IsWire s (left p.bits (pos 0))) × AreBusPorts ss ps

-- ---- where they stand

abbrev pub numbers : List SigId → List ℕ
numbers xs = map signal_number xs

abbrev pub some_number : Option SigId → List ℕ
some_number (Some x) = x.0 ∷ []
some_number None = []

abbrev pub manager_signals : ManagerDecl → List ℕ
manager_signals m = flat_map (λ (s : SourceDecl). numbers s.signals) m.sources ++ m.irq.0 ∷ m.enable.0 ∷ []

abbrev pub part_signals : Part → List ℕ
part_signals (part.Reg r) = numbers r.signals
part_signals (part.Constant c) = []
part_signals (part.Manager name m) = manager_signals m
part_signals (part.Module k) = []

abbrev pub slave_signals : SlaveKind → List ℕ
slave_signals (slave.Ram contents) = []
slave_signals (slave.Rom contents) = []
slave_signals (slave.User xs) = numbers xs

abbrev pub fsm_signals : FsmDecl → List ℕ
fsm_signals f = f.state.0 ∷ map (λ (a : Asked). a.signal.0) f.asked

abbrev pub port_signals : Port → List ℕ
port_signals q = q.adr.0 ∷ (some_number q.dat_r ++ (some_number q.dat_w ++ some_number q.we))

abbrev pub resets : List Domain → List ℕ
resets xs = flat_map (λ (x : Domain). some_number x.reset) xs

abbrev pub bus_signals : Bool → List ℕ
bus_signals true = 0 ∷ 1 ∷ 2 ∷ 3 ∷ 4 ∷ 5 ∷ 6 ∷ 7 ∷ 8 ∷ 9 ∷ []
bus_signals false = []

-- the signals of registers, event managers, slaves and FSMs
abbrev pub declared : Description → List ℕ
declared d =
    flat_map (λ (m : ModuleDecl). flat_map part_signals m.parts) d.modules
    ++ (flat_map (λ (s : SlaveDecl). slave_signals s.kind) d.slaves ++ flat_map fsm_signals d.fsms)

-- all signals that have a place: those, the ports of memories, the ports of the bus, and the resets
abbrev pub placed : Description → List ℕ
placed d = declared d ++ (flat_map port_signals d.design.ports ++ (bus_signals d.soc ++ resets d.design.domains))
