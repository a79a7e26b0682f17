-- A system: a description's circuit, and what the bus reaches of it.
use Rattle.std.specs.Prelude.{ℕ, Bool, List, Option}
use Rattle.lx_circuit.specs.Circuit.{Circuit}
use Rattle.lx_machine.specs.Map.{Register}

-- the signals of the master's port (Wishbone B4, "Signals"); `adr` counts words of four bytes
pub record Port : Type 0 where
  pub adr : ℕ
  pub dat_w : ℕ
  pub sel : ℕ
  pub cyc : ℕ
  pub stb : ℕ
  pub we : ℕ
  pub dat_r : ℕ
  pub ack : ℕ
  pub err : ℕ
  pub irq : ℕ

-- ---- events

pub data SourceKind : Type 0 where
  Pulse : SourceKind
  Rising : SourceKind
  Falling : SourceKind
  Level : SourceKind

pub record Source : Type 0 where
  pub kind : SourceKind
  pub trigger : ℕ
  pub status : ℕ
  pub pending : ℕ
  pub clear : ℕ

-- an event manager: the places of its registers in the map, its output, its interrupt's number where it
-- has one, and its sources; source i has bit i
pub record Manager : Type 0 where
  pub pending : ℕ
  pub enable : ℕ
  pub irq : ℕ
  pub interrupt : Option ℕ
  pub sources : List Source

-- ---- targets

-- the signals of a user slave
pub record Slave : Type 0 where
  pub adr : ℕ
  pub dat_w : ℕ
  pub sel : ℕ
  pub cyc : ℕ
  pub stb : ℕ
  pub we : ℕ
  pub dat_r : ℕ
  pub ack : ℕ
  pub err : ℕ

-- a RAM, or a ROM, of so many words of four bytes
pub record Store : Type 0 where
  pub writable : Bool
  pub depth : ℕ
  pub init : List ℕ

pub data Target : Type 0 where
  Csr : Target
  Memory : (store : Store) → Target
  User : (slave : Slave) → Target
  -- addresses of no region
  Null : Target

-- a region: its origin, its rounded size in bytes, and its target
pub record Region : Type 0 where
  pub origin : ℕ
  pub rounded : ℕ
  pub target : Target

-- ---- systems

pub record System : Type 0 where
  -- the description's design, with the port's inputs among its ports
  pub circuit : Circuit
  -- the number of the domain of the bus
  pub sys : ℕ
  pub port : Port
  pub registers : List Register
  pub managers : List Manager
  pub regions : List Region
