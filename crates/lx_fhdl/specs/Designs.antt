-- The circuit of a design.
use Rattle.std.specs.Prelude.{ℕ, List, [], ◌∷◌, ◌++◌, ◌+◌, Option, Some, None, map, option_map, nat_eq, if◌then◌else◌}
use Rattle.lx_circuit.specs.Terms.{Term}
use Rattle.lx_circuit.specs.Shapes.{Shapes}
use Rattle.lx_circuit.specs.Statements as tree
use Rattle.lx_circuit.specs.Memories as memory
use Rattle.lx_circuit.specs.Circuit as circuit
use Rattle.lx_fhdl.specs.Below.{StmtId}
use Rattle.lx_fhdl.specs.Trees.{term_at}
use Rattle.lx_fhdl.specs.Stmts.{target_at, stmt_at, block_at}
use Rattle.lx_fhdl.specs.declared.exprs.SigId.{SigId}
use Rattle.lx_fhdl.specs.declared.design.Signal.{Signal}
use Rattle.lx_fhdl.specs.declared.design.Memory.{Memory}
use Rattle.lx_fhdl.specs.declared.design.PortMode.{PortMode}
use Rattle.lx_fhdl.specs.declared.design.PortMode.TheVariants as mode
use Rattle.lx_fhdl.specs.declared.design.Port.{Port}
use Rattle.lx_fhdl.specs.declared.design.Domain.{Domain}
use Rattle.lx_fhdl.specs.declared.design.SyncPart.{SyncPart}
use Rattle.lx_fhdl.specs.declared.design.Design.{Design}

-- the trees at the places of a design's arenas
abbrev pub term : Design → ℕ → Term
term d k = term_at d.exprs k

abbrev pub target : Design → ℕ → tree.Target
target d k = target_at (term_at d.exprs) d.targets k

abbrev pub stmt : Design → ℕ → tree.Stmt
stmt d k = stmt_at (term_at d.exprs) (target_at (term_at d.exprs) d.targets) d.stmts k

abbrev pub block : Design → List StmtId → tree.Block
block d ids = block_at (stmt d) ids

abbrev pub made_of : Signal → circuit.Made
made_of s = record { shape = s.shape; reset = s.reset; reset_less = s.reset_less; given = s.by_bus }

abbrev pub signal_number : SigId → ℕ
signal_number x = x.0

-- ---- memories

abbrev pub memory_of : Memory → memory.Memory
memory_of m = record { width = m.width; depth = m.depth; init = m.init }

abbrev pub mode_of : PortMode → memory.Mode
mode_of mode.Async = memory.Async
mode_of mode.WriteFirst = memory.WriteFirst
mode_of mode.ReadFirst = memory.ReadFirst
mode_of mode.NoChange = memory.NoChange

-- a port writes where dat_w and we are there
abbrev pub writer_of : ℕ → Option SigId → Option SigId → Option memory.Writer
writer_of part (Some dat_w) (Some we) = Some (record { from = dat_w.0; we = we.0; part = part })
writer_of part _ _ = None

abbrev pub port_of : Port → memory.Port
port_of q = record {
  memory = q.memory;
  adr = q.adr.0;
  domain = q.domain;
  reader = option_map signal_number q.dat_r;
  writer = writer_of q.part q.dat_w q.we;
  mode = mode_of q.mode;
}

-- ---- domains

-- the statements of the domain of number k, those of all its parts in their order
abbrev pub stmts_of : ℕ → List SyncPart → List StmtId
stmts_of k [] = []
stmts_of k (p ∷ ps) = if nat_eq p.domain k then p.stmts ++ stmts_of k ps else stmts_of k ps

abbrev pub domain_of : Design → ℕ → Domain → circuit.Domain
domain_of d k x = record { name = x.name; reset = option_map signal_number x.reset; stmts = block d (stmts_of k d.sync) }

-- the domains from number k on
abbrev pub domains_from : Design → ℕ → List Domain → List circuit.Domain
domains_from d k [] = []
domains_from d k (x ∷ xs) = domain_of d k x ∷ domains_from d (k + 1) xs

-- The circuit: what the design means.
unfoldable pub circuit_of : Design → circuit.Circuit
circuit_of d = record {
  signals = map made_of d.signals;
  comb = block d d.comb;
  domains = domains_from d 0 d.domains;
  memories = map memory_of d.memories;
  ports = map port_of d.ports;
  ios = map signal_number d.ios;
}

-- the shapes of its signals
abbrev pub shapes : Design → Shapes
shapes d = circuit.shapes (circuit_of d)

-- the memory of a number, as the circuit has it
abbrev pub memory_at : Design → ℕ → memory.Memory
memory_at d m = circuit.memory_at (circuit_of d) m
