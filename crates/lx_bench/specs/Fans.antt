-- Designs whose signals take the inverse of one input, and the names of their nets.
use Rattle.std.specs.Prelude.{◌≡◌, ℕ, false, List, ◌++◌, ◌+◌, ◌<◌, ◌≤◌, codes, length, true, IsTrue}
use Rattle.std.specs.List.{list_all}
use Rattle.lx_tables.specs.declared.operators.Op.TheVariants as op
use Rattle.lx_circuit.specs.Places.{Place, At}
use Rattle.lx_circuit.specs.Terms as term
use Rattle.lx_circuit.specs.Statements as tree
use Rattle.lx_circuit.specs.Reads.{HasOrder, reads_block}
use Rattle.lx_vtext.specs.Tree.{Name}
use Rattle.lx_vtext.specs.Names.{is_name}
use Rattle.lx_vtext.specs.Printed.{number_text}
use Rattle.lx_fhdl.specs.Below.{StmtId, all_stmts_below}
use Rattle.lx_fhdl.specs.Designs as design
use Rattle.lx_fhdl.specs.Designs.{block, circuit_of}
use Rattle.lx_fhdl.specs.Drafts.{Stays}
use Rattle.lx_fhdl.specs.Keeping.{EachOf, IsSignal, Keeps, block_depth, is_distinct}
use Rattle.lx_fhdl.specs.declared.design.Signal.{Signal}
use Rattle.lx_fhdl.specs.declared.design.Design.{Design}
use Rattle.lx_emission.specs.Naming.{is_among, node_name}
use Rattle.lx_emission.specs.Emits.{MemoriesFit, PortsFit}

-- ---- names

-- `s$` and the number of a signal
unfoldable pub spelled : ℕ → Name
spelled x = codes "s$" ++ number_text x

-- the names of the first n signals
pub record AreNames (names : List Name) (n : ℕ) : Type 0 where
  pub long : length names ≡ n
  pub lawful : IsTrue (list_all is_name names)
  pub distinct : IsTrue (is_distinct names)
  pub nodes : (k : ℕ) → is_among (node_name k) names ≡ false
  pub others : (x : ℕ) → n ≤ x → is_among (spelled x) names ≡ false

-- ---- what a design is made of

pub record AreSignals (ss : List Signal) (n : ℕ) : Type 0 where
  pub long : length ss ≡ n
  pub each : EachOf IsSignal ss

-- the expression is the input
pub record IsInput (d : Design) (k : ℕ) : Type 0 where
  pub there : k < length d.exprs
  pub tree : design.term d k ≡ term.Signal 0

-- a signal takes the input's inverse
abbrev pub inverse : ℕ → tree.Stmt
inverse x = tree.Assign (tree.Whole x) (term.Unary op.Not (term.Signal 0))

-- the statement does so for another signal
pub record IsLine (d : Design) (k : ℕ) : Type 0 where
  pub there : k < length d.stmts
  pub signal : ℕ
  pub other : 1 ≤ signal
  pub tree : design.stmt d k ≡ inverse signal

abbrev pub AreLines : Design → List StmtId → Type 0
AreLines d ids = EachOf (λ (i : StmtId). IsLine d i.place) ids

-- the design grew, with the same signals and memories
pub record Grew (old new : Design) : Type 0 where
  pub signals : new.signals ≡ old.signals
  pub memories : new.memories ≡ old.memories
  pub stays : Stays old new

pub record LinePut (old new : Design) (k : ℕ) : Type 0 where
  pub grew : Grew old new
  pub line : IsLine new k

pub record LinesPut (old new : Design) (ids : List StmtId) : Type 0 where
  pub grew : Grew old new
  pub lines : AreLines new ids

-- the statements are there, and read the input alone, for other signals
pub record IsFan (d : Design) (ids : List StmtId) : Type 0 where
  pub there : IsTrue (all_stmts_below (length d.stmts) ids)
  pub depth : block_depth (block d ids) ≤ 2
  pub reads : (x : ℕ) (y : Place) → reads_block x y (block d ids) ≡ true → (y ≡ At 0) × (1 ≤ x)

pub record FanPut (old new : Design) (ids : List StmtId) : Type 0 where
  pub grew : Grew old new
  pub fan : IsFan new ids

-- a design of n signals that can be written, without domains
pub record IsMade (d : Design) (n : ℕ) : Type 0 where
  pub keeps : Keeps d
  pub order : HasOrder (circuit_of d)
  pub ports : PortsFit d
  pub memories : MemoriesFit d
  pub long : length d.signals + length d.memories ≡ n
  pub domains : length d.domains ≡ 0
