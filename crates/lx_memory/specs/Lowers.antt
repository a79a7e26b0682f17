-- What lowering of ports needs, and what it gives.
use Rattle.std.specs.Prelude.{◌≡◌, ℕ, Bool, true, false, List, [], ◌++◌, Some, None, ◌<◌, ◌≤◌, length, map, slice_get, IfSome, IsSomeAnd}
use Rattle.std.specs.List.{filter}
use Rattle.std.specs.Option.{is_some}
use Rattle.lx_circuit.specs.Circuit.{Circuit, Domain, Input, Read, is_among, is_some_reset, memory_at, port_at, role, shapes}
use Rattle.lx_circuit.specs.Fitting.{KeepsShapes}
use Rattle.lx_circuit.specs.Locality.{block_mentions}
use Rattle.lx_circuit.specs.Memories as memory
use Rattle.lx_circuit.specs.Places.{At}
use Rattle.lx_circuit.specs.Reads.{HasOrder}
use Rattle.lx_circuit.specs.Runs.{Extends}
use Rattle.lx_circuit.specs.Statements.{Block}
use Rattle.lx_fhdl.specs.Below.{StmtId}
use Rattle.lx_fhdl.specs.Designs.{circuit_of}
use Rattle.lx_fhdl.specs.Drafts.{Stays}
use Rattle.lx_fhdl.specs.Keeping.{EachOf, Keeps}
use Rattle.lx_fhdl.specs.Nodes.{IsSmall}
use Rattle.lx_fhdl.specs.declared.design.Design.{Design}
use Rattle.lx_fhdl.specs.declared.design.Port.{Port}
use Rattle.lx_fhdl.specs.declared.design.Signal.{Signal}
use Rattle.lx_fhdl.specs.declared.design.SyncPart.{SyncPart}
use Rattle.lx_fhdl.specs.declared.stmts.Stmt.{Stmt}
use Rattle.lx_fhdl.specs.declared.stmts.Stmt.TheVariants as stmt
use Rattle.lx_memory.specs.Ports.{lowered, word_shape}

-- ---- what is needed

-- the mode keeps an address, or a word
abbrev pub keeps_some : memory.Mode → Bool
keeps_some memory.Async = false
keeps_some _ = true

-- each dat_r is that of one port, and nothing else drives it
pub record ShowAlone (c : Circuit) : Type 0 where
  pub each : (j r : ℕ) → (port_at c j).reader ≡ Some r → role c r ≡ Read j

-- a port's signals are there, dat_r has the bits of a word, and what keeps has a domain
pub record PortFits (c : Circuit) (q : memory.Port) : Type 0 where
  pub adr : q.adr < length c.signals
  pub plain : (shapes c q.adr).signed ≡ false
  pub word : 1 ≤ (memory_at c q.memory).width
  pub reader : IfSome q.reader (λ r. (r < length c.signals) × (shapes c r ≡ word_shape c q))
  pub writer : IfSome q.writer (λ w. (w.from < length c.signals) × (w.we < length c.signals))
  pub domain : keeps_some q.mode ≡ true → IsSomeAnd q.domain (λ k. k < length c.domains)

-- statements name the first n signals alone
abbrev pub NamesBelow : ℕ → Block → Type 0
NamesBelow n b = (x : ℕ) → block_mentions (At x) b ≡ true → x < n

-- A circuit whose ports can be lowered: its signals have 1 to 127 bits, its statements, resets and ports to the outside name
-- signals that are there, and its ports fit and show alone.
pub record CanLowerPorts (c : Circuit) : Type 0 where
  pub signals : KeepsShapes c
  pub small : (x : ℕ) → x < length c.signals → IsSmall (shapes c x)
  pub comb : NamesBelow (length c.signals) c.comb
  pub domains : EachOf (λ (d : Domain). NamesBelow (length c.signals) d.stmts) c.domains
  pub resets : (x : ℕ) → is_some_reset x c.domains ≡ true → x < length c.signals
  pub ios : (x : ℕ) → is_among x c.ios ≡ true → x < length c.signals
  pub ports : (j : ℕ) → j < length c.ports → PortFits c (port_at c j)
  pub alone : ShowAlone c

-- The lowered circuit has the same runs on the signals and words of the circuit and the same inputs, and its reads have an
-- order where those of the circuit have one.
pub record LowersPorts (c e : Circuit) : Type 0 where
  pub runs : Extends (length c.signals) c e
  pub inputs : (x : ℕ) → role c x ≡ Input → role e x ≡ Input
  pub inputs_back : (x : ℕ) → role e x ≡ Input → role c x ≡ Input
  pub order : HasOrder c → HasOrder e

abbrev pub IsPortsLaw : Type 0
IsPortsLaw = (c : Circuit) → CanLowerPorts c → LowersPorts c (lowered c)

-- The circuit of a design is one whose ports can be lowered, where each dat_r is that of one port and nothing else drives it.
abbrev pub CanLowerDesigns : Type 0
CanLowerDesigns = (d : Design) → Keeps d → ShowAlone (circuit_of d) → CanLowerPorts (circuit_of d)

-- ---- what is added to a design

-- a signal of generated hardware
pub record IsGenerated (s : Signal) : Type 0 where
  pub path : s.path ≡ []
  pub line : s.line ≡ 0

-- the line of a statement
abbrev pub line_of : Stmt → ℕ
line_of (stmt.Assign target value line) = line
line_of (stmt.If branches rest line) = line
line_of (stmt.Case on arms rest line) = line

-- the statements of a list are none of the first n
abbrev pub ArePast : ℕ → List StmtId → Type 0
ArePast n ids = EachOf (λ (id : StmtId). n ≤ id.place) ids

-- The signals, statements and parts of domains that come after those of the design, all of generated hardware. The combinatorial
-- statements are none of the design's own.
pub record Added (d e : Design) : Type 0 where
  pub signals : List Signal
  pub comb : List StmtId
  pub sync : List SyncPart
  pub signals_are : e.signals ≡ d.signals ++ signals
  pub comb_are : e.comb ≡ d.comb ++ comb
  pub sync_are : e.sync ≡ d.sync ++ sync
  pub generated : EachOf IsGenerated signals
  pub past : ArePast (length d.stmts) comb
  pub lines : (k : ℕ) (x : Stmt) → length d.stmts ≤ k → slice_get e.stmts k ≡ Some x → line_of x ≡ 0

-- a port that shows nothing
abbrev pub silent : Port → Port
silent q = record { memory = q.memory; domain = q.domain; adr = q.adr; dat_r = None; dat_w = q.dat_w; we = q.we; part = q.part; mode = q.mode }

abbrev pub writers : List Port → List Port
writers qs = map silent (filter (λ (q : Port). is_some q.we) qs)

-- ---- the answer

-- A design with its ports lowered keeps what designs keep; what stood in it stays, and registers and assignments of generated
-- hardware come after it; the ports that write stay, and none shows anything. It means exactly the lowered circuit: so on
-- the signals and words of the design its runs are the same, and its reads have an order where the design's have one.
pub record IsPortsOf (d e : Design) : Type 0 where
  pub keeps : Keeps e
  pub stays : Stays d e
  pub added : Added d e
  pub memories : e.memories ≡ d.memories
  pub domains : e.domains ≡ d.domains
  pub ios : e.ios ≡ d.ios
  pub ports : e.ports ≡ writers d.ports
  pub circuit : circuit_of e ≡ lowered (circuit_of d)
  pub lowers : LowersPorts (circuit_of d) (circuit_of e)
