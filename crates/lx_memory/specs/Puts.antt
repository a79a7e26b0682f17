-- What is added to a design while its ports are lowered.
use Rattle.std.specs.Prelude.{◌≡◌, ℕ, pos, true, false, List, [], ◌∷◌, ◌++◌, Option, Some, None, ◌<◌, ◌≤◌, length, map, slice_get}
use Rattle.lx_num.specs.Ints.{unsigned}
use Rattle.lx_num.specs.declared.Shape.{Shape}
use Rattle.lx_tables.specs.declared.operators.Op.TheVariants as op
use Rattle.lx_circuit.specs.Circuit.{Circuit, Made}
use Rattle.lx_circuit.specs.Memories.{Mode}
use Rattle.lx_circuit.specs.Shapes.{Shapes}
use Rattle.lx_circuit.specs.Statements as tree
use Rattle.lx_circuit.specs.Terms.{Term}
use Rattle.lx_circuit.specs.Terms as term
use Rattle.lx_lowering.specs.Flat.{fails, one}
use Rattle.lx_fhdl.specs.Below.{StmtId}
use Rattle.lx_fhdl.specs.Designs as design
use Rattle.lx_fhdl.specs.Designs.{circuit_of, memory_at, port_of, shapes}
use Rattle.lx_fhdl.specs.Drafts.{IsDraft, Stays}
use Rattle.lx_fhdl.specs.Keeping.{EachOf, ListStands, PartStands}
use Rattle.lx_fhdl.specs.declared.design.Design.{Design}
use Rattle.lx_fhdl.specs.declared.design.Port.{Port}
use Rattle.lx_fhdl.specs.declared.design.Signal.{Signal}
use Rattle.lx_fhdl.specs.declared.design.SyncPart.{SyncPart}
use Rattle.lx_fhdl.specs.declared.exprs.SigId.{SigId}
use Rattle.lx_fhdl.specs.declared.stmts.Stmt.{Stmt}
use Rattle.lx_memory.specs.Lowers.{Added, line_of}
use Rattle.lx_memory.specs.Ports.{reads, register, registers, takes, with_reader, with_readers, with_sync, word_at, word_shape}

-- ---- a design that grows again

-- what it keeps at each moment: what drafts keep, and its lists of statements stand
pub record IsGrowing (d : Design) : Type 0 where
  pub draft : IsDraft d
  pub comb : ListStands d d.comb
  pub sync : EachOf (PartStands d) d.sync

-- the statements from number n on are of generated hardware
abbrev pub AreGenerated : ℕ → List Stmt → Type 0
AreGenerated n ss = (k : ℕ) (x : Stmt) → n ≤ k → slice_get ss k ≡ Some x → line_of x ≡ 0

-- it grows by nodes: its lists are the same, and the trees stay
pub record Grows (old new : Design) : Type 0 where
  pub is : new ≡ record old { exprs = new.exprs; targets = new.targets; stmts = new.stmts }
  pub stays : Stays old new
  pub lines : AreGenerated (length old.stmts) new.stmts

-- it grows by nodes, signals and statements of generated hardware
pub record Growth (old new : Design) : Type 0 where
  pub stays : Stays old new
  pub added : Added old new
  pub memories : new.memories ≡ old.memories
  pub domains : new.domains ≡ old.domains
  pub ios : new.ios ≡ old.ios
  pub ports : new.ports ≡ old.ports

-- ---- nodes

-- an expression, a statement hangs at a place
pub record HasTerm (d : Design) (id : ℕ) (t : Term) : Type 0 where
  pub there : id < length d.exprs
  pub tree : design.term d id ≡ t

pub record HasStmt (d : Design) (id : ℕ) (t : tree.Stmt) : Type 0 where
  pub there : id < length d.stmts
  pub tree : design.stmt d id ≡ t

pub record TermPut (old new : Design) (id : ℕ) (t : Term) : Type 0 where
  pub grows : Grows old new
  pub has : HasTerm new id t

pub record StmtPut (old new : Design) (id : ℕ) (t : tree.Stmt) : Type 0 where
  pub grows : Grows old new
  pub has : HasStmt new id t
  pub past : length old.stmts ≤ id

-- the words of a port's memory can be read at the address that the signal x has
pub record CanRead (d : Design) (q : Port) (x : SigId) : Type 0 where
  pub memory : q.memory < length d.memories
  pub adr : q.adr.0 < length d.signals
  pub plain : (shapes d q.adr.0).signed ≡ false
  pub there : x.0 < length d.signals
  pub shape : shapes d x.0 ≡ shapes d q.adr.0

-- the word of a port's memory at the address that a signal has, and the same guarded
abbrev pub fetched : Design → Port → SigId → Term
fetched d q x = term.Fetch q.memory (memory_at d q.memory).width (term.Signal x.0)

abbrev pub guarded : Design → Port → SigId → Term
guarded d q x =
    let m = memory_at d q.memory in
    term.Mux (term.Binary op.Lt (term.Signal x.0) (term.Constant (pos m.depth) (shapes d q.adr.0))) (fetched d q x) (term.Constant (pos 0) (unsigned m.width))

-- the statement, where all bits of a signal are 0 if one is named
abbrev pub held : Shapes → Option SigId → tree.Stmt → tree.Stmt
held s None t = t
held s (Some x) t = tree.If (tree.Branch (fails s (term.Signal x.0)) (one t) tree.NoBranch) tree.Done

-- ---- registers

-- a signal of generated hardware that starts at 0 and that no reset changes
abbrev pub register_of : Shape → Signal
register_of a = record { path = []; shape = a; reset = pos 0; reset_less = true; by_bus = false; line = 0 }

-- a statement as a part of its domain
abbrev pub part_of : Option ℕ → StmtId → List SyncPart
part_of None id = []
part_of (Some k) id = record { domain = k; stmts = id ∷ [] } ∷ []

-- it is one more statement of the domain, where there is one
pub record SyncPut (old new : Design) (domain : Option ℕ) (id : StmtId) : Type 0 where
  pub is : new ≡ record old { sync = old.sync ++ part_of domain id }

-- with further signals, and further statements of a domain
abbrev pub with_register : Circuit → List Made → Option ℕ → tree.Block → Circuit
with_register c more domain b = record {
  signals = c.signals ++ more;
  comb = c.comb;
  domains = with_sync c.domains domain b;
  memories = c.memories;
  ports = c.ports;
  ios = c.ios;
}

-- the registers of a port stand, with what they take, and what it shows hangs at a place
pub record ShowPut (old new : Design) (more : List Made) (domain : Option ℕ) (b : tree.Block) (id : ℕ) (t : Term) : Type 0 where
  pub growth : Growth old new
  pub has : HasTerm new id t
  pub circuit : circuit_of new ≡ with_register (circuit_of old) more domain b

-- those of a mode
abbrev pub IsShown : Design → Design → Port → Mode → ℕ → Type 0
IsShown old new q mode id =
    let c = circuit_of old in
    let n = length c.signals in
    ShowPut old new (registers c (port_of q) mode) q.domain (takes c (port_of q) n mode) id (reads c (port_of q) n mode)

-- a register of the port that takes the word at each rise, or, with a signal, where all bits of it are 0
abbrev pub IsKept : Design → Design → Port → Option SigId → ℕ → Type 0
IsKept old new q holds id =
    let c = circuit_of old in
    let n = length c.signals in
    let taken = held (shapes old) holds (tree.Assign (tree.Whole n) (word_at c (port_of q) q.adr.0)) in
    ShowPut old new (register (word_shape c (port_of q)) ∷ []) q.domain (one taken) id (term.Signal n)

-- a port is lowered
pub record PortLowered (old new : Design) (q : Port) : Type 0 where
  pub growth : Growth old new
  pub circuit : circuit_of new ≡ with_reader (circuit_of old) (port_of q) (port_of q).reader

-- so are several
pub record PortsLowered (old new : Design) (qs : List Port) : Type 0 where
  pub growth : Growth old new
  pub circuit : circuit_of new ≡ with_readers (circuit_of old) (map port_of qs)
