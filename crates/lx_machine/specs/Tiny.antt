-- A small system with a register of each kind, an event manager with a source of each kind, a RAM, a ROM
-- and a user slave.
use Rattle.std.specs.Prelude.{ℕ, pos, true, false, List, [], ◌∷◌, Some, None, ◌+◌, slice_index_or, codes}
use Rattle.lx_num.specs.Ints.{unsigned}
use Rattle.lx_circuit.specs.Places.{Place, At, Word, Kept}
use Rattle.lx_circuit.specs.Terms.{Constant, Signal}
use Rattle.lx_circuit.specs.Statements.{Block, Done, Then, Assign, If, Branch, NoBranch, Whole}
use Rattle.lx_circuit.specs.Circuit.{Made, Circuit}
use Rattle.lx_machine.specs.Map.{CsrOptions, Bank, StorageParts, Storage, Status, Raw, EventStatus, EventPending, map_of}
use Rattle.lx_machine.specs.System.{System, Port, Source, SourceKind, Pulse, Rising, Falling, Level, Manager, Slave, Csr, Memory, User, Region}

-- a signal of the description, and one that something else gives
abbrev pub own : ℕ → Made
own n = record { shape = unsigned n; reset = pos 0; reset_less = false; given = false }

abbrev pub other : ℕ → ℕ → Made
other n reset = record { shape = unsigned n; reset = pos reset; reset_less = false; given = true }

-- the port of every system here: signals 0 to 9
abbrev pub port : Port
port = record { adr = 0; dat_w = 1; sel = 2; cyc = 3; stb = 4; we = 5; dat_r = 6; ack = 7; err = 8; irq = 9 }

abbrev pub port_signals : List Made
port_signals =
    own 30 ∷ own 32 ∷ own 4 ∷ own 1 ∷ own 1 ∷ own 1 ∷ other 32 0 ∷ other 1 0 ∷ other 1 0 ∷ other 32 0 ∷ []

-- words of 32 bits, the most significant one first
abbrev pub usual : CsrOptions
usual = record { data_width = 32; little = false; paging = 0x800; base = 0xf0000000 }

-- the region of 32 banks
abbrev pub csr_region : CsrOptions → Region
csr_region o = record { origin = o.base; rounded = 0x10000; target = Csr }

-- ---- the signals: 10 is the reset

-- 11 to 13
abbrev pub plain_parts : StorageParts
plain_parts = record {
  reset = 0;
  atomic = false;
  device = None;
  shown = Some (record { storage = 11; re = 12; fields = record { signal = 13; low = 32; len = 8 } ∷ [] });
}

-- 14 to 17
abbrev pub atomic_parts : StorageParts
atomic_parts = record {
  reset = 7;
  atomic = true;
  device = Some (record { we = 16; dat_w = 17 });
  shown = Some (record { storage = 14; re = 15; fields = [] });
}

abbrev pub enable_parts : StorageParts
enable_parts = record { reset = 0; atomic = false; device = None; shown = None }

-- 18 and 19 are a status's, 20 to 23 a raw register's, 24 to 40 the manager's, 41 to 49 the slave's;
-- 50 is a storage that is collected nowhere, and 51 a register of the description
abbrev pub tiny_signals : List Made
tiny_signals =
    own 30 ∷ own 32 ∷ own 4 ∷ own 1 ∷ own 1 ∷ own 1 ∷ other 32 0 ∷ other 1 0 ∷ other 1 0 ∷ other 32 0
    ∷ own 1
    ∷ other 40 0 ∷ other 1 0 ∷ other 8 0
    ∷ other 40 7 ∷ other 1 0 ∷ own 1 ∷ own 40
    ∷ own 8 ∷ other 1 0
    ∷ other 8 0 ∷ other 1 0 ∷ other 1 0 ∷ own 8
    ∷ other 1 0
    ∷ own 1 ∷ other 1 0 ∷ other 1 0 ∷ other 1 0
    ∷ own 1 ∷ other 1 0 ∷ other 1 0 ∷ other 1 0
    ∷ own 1 ∷ other 1 0 ∷ other 1 0 ∷ other 1 0
    ∷ own 1 ∷ other 1 0 ∷ other 1 0 ∷ other 1 0
    ∷ other 30 0 ∷ other 32 0 ∷ other 4 0 ∷ other 1 0 ∷ other 1 0 ∷ other 1 0 ∷ own 32 ∷ own 1 ∷ own 1
    ∷ other 8 5
    ∷ own 8
    ∷ []

-- the slave answers 0x55 at once; and what is written to the raw register is kept
abbrev pub tiny_comb : Block
tiny_comb = Then (Assign (Whole 48) (Signal 44)) (Then (Assign (Whole 47) (Constant (pos 0x55) (unsigned 32))) Done)

abbrev pub tiny_sync : Block
tiny_sync = Then (If (Branch (Signal 21) (Then (Assign (Whole 51) (Signal 20)) Done) NoBranch) Done) Done

abbrev pub tiny_circuit : Circuit
tiny_circuit = record {
  signals = tiny_signals;
  comb = tiny_comb;
  domains = record { name = codes "sys"; reset = Some 10; stmts = tiny_sync } ∷ [];
  memories = [];
  ports = [];
  ios = 0 ∷ 1 ∷ 2 ∷ 3 ∷ 4 ∷ 5 ∷ 6 ∷ 7 ∷ 8 ∷ 9 ∷ 16 ∷ 17 ∷ 18 ∷ 23 ∷ 25 ∷ 29 ∷ 33 ∷ 37 ∷ [];
}

-- ---- the map

abbrev pub tiny_banks : List Bank
tiny_banks =
    record {
      number = 0;
      registers =
          record { size = 40; kind = Storage plain_parts }
          ∷ record { size = 40; kind = Storage atomic_parts }
          ∷ record { size = 8; kind = Status 18 19 }
          ∷ record { size = 8; kind = Raw 20 21 22 23 }
          ∷ [];
    }
    ∷ record {
      number = 1;
      registers =
          record { size = 4; kind = EventStatus 0 }
          ∷ record { size = 4; kind = EventPending 0 }
          ∷ record { size = 4; kind = Storage enable_parts }
          ∷ [];
    }
    ∷ []

abbrev pub tiny_source : SourceKind → ℕ → Source
tiny_source kind x = record { kind = kind; trigger = x; status = x + 1; pending = x + 2; clear = x + 3 }

abbrev pub tiny_manager : Manager
tiny_manager = record {
  pending = 5;
  enable = 6;
  irq = 24;
  interrupt = Some 2;
  sources = tiny_source Pulse 25 ∷ tiny_source Falling 29 ∷ tiny_source Rising 33 ∷ tiny_source Level 37 ∷ [];
}

abbrev pub tiny_slave : Slave
tiny_slave = record { adr = 41; dat_w = 42; sel = 43; cyc = 44; stb = 45; we = 46; dat_r = 47; ack = 48; err = 49 }

-- the registers; a RAM of three words in 16 bytes; a ROM of one word; and the slave
abbrev pub more_regions : List Region
more_regions =
    record { origin = 0x10000000; rounded = 16; target = Memory (record { writable = true; depth = 3; init = 0x11223344 ∷ [] }) }
    ∷ record { origin = 0x20000000; rounded = 4; target = Memory (record { writable = false; depth = 1; init = 7 ∷ [] }) }
    ∷ record { origin = 0x80000000; rounded = 16; target = User tiny_slave }
    ∷ []

abbrev pub tiny_regions : List Region
tiny_regions = csr_region usual ∷ more_regions

abbrev pub tiny : System
tiny = record {
  circuit = tiny_circuit;
  sys = 0;
  port = port;
  registers = map_of usual tiny_banks;
  managers = tiny_manager ∷ [];
  regions = tiny_regions;
}

-- ---- an order of its reads

-- each signal's rank is above those of what it reads
abbrev pub tiny_ranks : List ℕ
tiny_ranks =
    0 ∷ 0 ∷ 0 ∷ 0 ∷ 0 ∷ 0 ∷ 3 ∷ 3 ∷ 3 ∷ 3
    ∷ 0
    ∷ 0 ∷ 0 ∷ 0
    ∷ 0 ∷ 0 ∷ 0 ∷ 0
    ∷ 0 ∷ 1
    ∷ 1 ∷ 1 ∷ 1 ∷ 0
    ∷ 2
    ∷ 0 ∷ 1 ∷ 1 ∷ 1
    ∷ 0 ∷ 1 ∷ 1 ∷ 1
    ∷ 0 ∷ 1 ∷ 1 ∷ 1
    ∷ 0 ∷ 1 ∷ 1 ∷ 1
    ∷ 1 ∷ 1 ∷ 1 ∷ 1 ∷ 1 ∷ 1 ∷ 0 ∷ 2 ∷ 0
    ∷ 0
    ∷ 0
    ∷ []

abbrev pub tiny_rank : Place → ℕ
tiny_rank (At x) = slice_index_or tiny_ranks x 0
tiny_rank (Word m k) = 0
tiny_rank (Kept j) = 0
