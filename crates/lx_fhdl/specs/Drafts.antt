-- A design while it grows: what can be added to it, and what stays.
use Rattle.std.specs.Prelude.{◌≡◌, ℕ, List, [], ◌∷◌, ◌++◌, ◌+◌, Option, Some, None, ◌<◌, ◌≤◌, length, map, slice_get, IsTrue}
use Rattle.lx_circuit.specs.Shapes.{shape_of, fault_of}
use Rattle.lx_circuit.specs.Statements as tree
use Rattle.lx_fhdl.specs.Below.{expr_below, target_below, stmt_below}
use Rattle.lx_fhdl.specs.Designs as design
use Rattle.lx_fhdl.specs.Designs.{shapes}
use Rattle.lx_fhdl.specs.Keeping.{ArenasKeep, EachOf, HasPlainIndex, IsDomain, IsMemory, IsSignal, ListStands, NamesThere, PartStands, PortStands, StmtStands, TakesOperands, TargetStands, is_distinct}
use Rattle.lx_fhdl.specs.Nodes.{HasParts}
use Rattle.lx_fhdl.specs.Stmts.{node_stmt, node_target}
use Rattle.lx_fhdl.specs.Trees.{node_term}
use Rattle.lx_fhdl.specs.declared.design.Design.{Design}
use Rattle.lx_fhdl.specs.declared.design.Domain.{Domain}
use Rattle.lx_fhdl.specs.declared.design.Memory.{Memory}
use Rattle.lx_fhdl.specs.declared.design.Port.{Port}
use Rattle.lx_fhdl.specs.declared.design.Signal.{Signal}
use Rattle.lx_fhdl.specs.declared.exprs.Expr.{Expr}
use Rattle.lx_fhdl.specs.declared.exprs.SigId.{SigId}
use Rattle.lx_fhdl.specs.declared.stmts.Stmt.{Stmt}
use Rattle.lx_fhdl.specs.declared.stmts.Target.{Target}

-- What a design keeps of its signals, its memories and its arenas.
pub record DraftKeeps (d : Design) : Type 0 where
  pub arenas : ArenasKeep (shapes d) (length d.signals) d.memories d.exprs d.targets d.stmts
  pub signals : EachOf IsSignal d.signals
  pub memories : EachOf IsMemory d.memories

-- as many domains as there are up to the one that is named
abbrev pub domains_to : Option ℕ → ℕ
domains_to None = 0
domains_to (Some k) = k + 1

-- a port of a draft, whose domains come last: it stands as soon as the domain that it names is there
abbrev pub IsDraftPort : Design → Port → Type 0
IsDraftPort d q = PortStands (domains_to q.domain) d q

-- What a draft keeps: its ports too.
pub record IsDraft (d : Design) : Type 0 where
  pub keeps : DraftKeeps d
  pub ports : EachOf (IsDraftPort d) d.ports

-- a design of these signals and memories, and nothing else
abbrev pub started : List Signal → List Memory → Design
started ss ms = record { exprs = []; targets = []; stmts = []; signals = ss; comb = []; sync = []; domains = []; memories = ms; ports = []; ios = [] }

-- ---- what can be added

-- an expression over those that are there, without a fault
pub record CanAddExpr (d : Design) (x : Expr) : Type 0 where
  pub below : IsTrue (expr_below x (length d.exprs))
  pub shaped : fault_of (shapes d) (node_term (design.term d) x) ≡ None
  pub operands : TakesOperands x
  pub parts : HasParts x
  pub named : NamesThere (length d.signals) d.memories x
  pub index : HasPlainIndex (shapes d) d.exprs x

-- a target over those that are there, of at most 127 bits
pub record CanAddTarget (d : Design) (x : Target) : Type 0 where
  pub below : IsTrue (target_below x (length d.targets))
  pub stands : TargetStands (shapes d) (length d.signals) d.exprs x
  pub bits : tree.target_bits (shapes d) (node_target (design.term d) (design.target d) x) ≤ 127

-- a statement over those that are there
pub record CanAddStmt (d : Design) (x : Stmt) : Type 0 where
  pub below : IsTrue (stmt_below x (length d.stmts))
  pub stands : StmtStands (length d.exprs) (length d.targets) x

-- ---- what comes last

-- What a design keeps of its lists of statements, its domains and its ports to the outside.
pub record ListsStand (d : Design) : Type 0 where
  pub comb : ListStands d d.comb
  pub sync : EachOf (PartStands d) d.sync
  pub domains : EachOf (IsDomain d) d.domains
  pub domains_most : length d.domains ≤ 16
  pub domains_distinct : IsTrue (is_distinct (map (λ (x : Domain). x.name) d.domains))
  pub ios : EachOf (λ (x : SigId). x.0 < length d.signals) d.ios

-- the domains that ports name are among n
abbrev pub HaveDomains : ℕ → List Port → Type 0
HaveDomains n qs = EachOf (λ (q : Port). domains_to q.domain ≤ n) qs

-- ---- what stays

-- the trees at all places, the statements' nodes, and the signals
pub record Stays (old new : Design) : Type 0 where
  pub exprs : length old.exprs ≤ length new.exprs
  pub targets : length old.targets ≤ length new.targets
  pub stmts : length old.stmts ≤ length new.stmts
  pub terms : (k : ℕ) → k < length old.exprs → design.term new k ≡ design.term old k
  pub target_trees : (k : ℕ) → k < length old.targets → design.target new k ≡ design.target old k
  pub stmt_trees : (k : ℕ) → k < length old.stmts → design.stmt new k ≡ design.stmt old k
  pub stmt_nodes : (k : ℕ) → k < length old.stmts → slice_get new.stmts k ≡ slice_get old.stmts k
  pub signals_more : length old.signals ≤ length new.signals
  pub signals : (x : ℕ) → x < length old.signals → slice_get new.signals x ≡ slice_get old.signals x

-- the memories and ports, the shapes of signals and expressions, and the bits of targets
pub record PartsStay (old new : Design) : Type 0 where
  pub memories_more : length old.memories ≤ length new.memories
  pub memories : (m : ℕ) → m < length old.memories → slice_get new.memories m ≡ slice_get old.memories m
  pub ports_more : length old.ports ≤ length new.ports
  pub ports : (j : ℕ) → j < length old.ports → slice_get new.ports j ≡ slice_get old.ports j
  pub signal_shapes : (x : ℕ) → x < length old.signals → shapes new x ≡ shapes old x
  pub expr_shapes : (k : ℕ) → k < length old.exprs → shape_of (shapes new) (design.term new k) ≡ shape_of (shapes old) (design.term old k)
  pub target_bits : (k : ℕ) → k < length old.targets → tree.target_bits (shapes new) (design.target new k) ≡ tree.target_bits (shapes old) (design.target old k)

-- ---- what was added

-- the expression hangs there, and nothing else changed
pub record ExprPut (old new : Design) (x : Expr) (id : ℕ) : Type 0 where
  pub is : new ≡ record old { exprs = old.exprs ++ x ∷ [] }
  pub place : id ≡ length old.exprs
  pub tree : design.term new id ≡ node_term (design.term old) x
  pub stays : Stays old new

pub record TargetPut (old new : Design) (x : Target) (id : ℕ) : Type 0 where
  pub is : new ≡ record old { targets = old.targets ++ x ∷ [] }
  pub place : id ≡ length old.targets
  pub tree : design.target new id ≡ node_target (design.term old) (design.target old) x
  pub stays : Stays old new

pub record StmtPut (old new : Design) (x : Stmt) (id : ℕ) : Type 0 where
  pub is : new ≡ record old { stmts = old.stmts ++ x ∷ [] }
  pub place : id ≡ length old.stmts
  pub tree : design.stmt new id ≡ node_stmt (design.term old) (design.target old) (design.stmt old) x
  pub stays : Stays old new

-- the signal is the last one, and nothing else changed
pub record SignalPut (old new : Design) (x : Signal) (id : ℕ) : Type 0 where
  pub is : new ≡ record old { signals = old.signals ++ x ∷ [] }
  pub place : id ≡ length old.signals
  pub stays : Stays old new
  pub parts : PartsStay old new

pub record MemoryPut (old new : Design) (x : Memory) (id : ℕ) : Type 0 where
  pub is : new ≡ record old { memories = old.memories ++ x ∷ [] }
  pub place : id ≡ length old.memories
  pub stays : Stays old new
  pub parts : PartsStay old new

pub record PortPut (old new : Design) (x : Port) (id : ℕ) : Type 0 where
  pub is : new ≡ record old { ports = old.ports ++ x ∷ [] }
  pub place : id ≡ length old.ports
  pub stays : Stays old new
  pub parts : PartsStay old new
