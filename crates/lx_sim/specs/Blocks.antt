-- What statements make of the pattern of a signal, from the values of expressions.
use Rattle.std.specs.Prelude.{◌≡◌, ℕ, ℤ, pos, Bool, true, List, ◌<◌, ◌^◌, ◌≤ℤ◌, ◌<ℤ◌, length}
use Rattle.lx_circuit.specs.Places.{Values, At}
use Rattle.lx_circuit.specs.Values.{value_of}
use Rattle.lx_circuit.specs.Statements as tree
use Rattle.lx_circuit.specs.Statements.{after_pieces, pieces, taken, taken_block}
use Rattle.lx_circuit.specs.Reads.{names, reads, reads_block}
use Rattle.lx_fhdl.specs.Below.{StmtId, TargetId}
use Rattle.lx_fhdl.specs.Designs.{block, shapes, stmt, target, term}
use Rattle.lx_fhdl.specs.Keeping.{Keeps}
use Rattle.lx_fhdl.specs.Lowered.{are_for, is_for, is_plain_target}
use Rattle.lx_fhdl.specs.Nodes.{value_at}
use Rattle.lx_fhdl.specs.declared.design.Design.{Design}

-- expressions that name no other signals than those of a test have their values under v
pub record AreRight (d : Design) (v : Values) (known : List ℤ) (test : ℕ → Bool) : Type 0 where
  pub each : (k : ℕ) → k < length d.exprs → ((y : ℕ) → names (At y) (term d k) ≡ true → test y ≡ true) → value_at known k ≡ value_of (shapes d) v (term d k)

-- signal x reads no other signals than those of a test
abbrev pub StmtReads : ℕ → tree.Stmt → (ℕ → Bool) → Type 0
StmtReads x s test = (y : ℕ) → reads x (At y) s ≡ true → test y ≡ true

abbrev pub BlockReads : ℕ → tree.Block → (ℕ → Bool) → Type 0
BlockReads x b test = (y : ℕ) → reads_block x (At y) b ≡ true → test y ≡ true

-- ---- what is run

-- a target of signal x, whole or in part
pub record IsOwnTarget (d : Design) (x : ℕ) (id : TargetId) : Type 0 where
  pub keeps : Keeps d
  pub within : id.place < length d.targets
  pub alone : is_plain_target x (target d id.place) ≡ true

-- statements for signal x, and a value for each expression
pub record IsOwnStmt (d : Design) (x : ℕ) (known : List ℤ) (id : StmtId) : Type 0 where
  pub keeps : Keeps d
  pub within : id.place < length d.stmts
  pub alone : is_for x (stmt d id.place) ≡ true
  pub long : length known ≡ length d.exprs

pub record IsOwnBlock (d : Design) (x : ℕ) (known : List ℤ) (ids : List StmtId) : Type 0 where
  pub keeps : Keeps d
  pub alone : are_for x (block d ids) ≡ true
  pub long : length known ≡ length d.exprs

-- ---- patterns

-- a pattern of at most 64 bits
pub record IsPattern (p : ℤ) : Type 0 where
  pub from_zero : pos 0 ≤ℤ p
  pub within : p <ℤ pos (2 ^ 64)

pub record IsTargetRun (d : Design) (x : ℕ) (id : TargetId) (z p r : ℤ) : Type 0 where
  pub pattern : IsPattern r
  pub is : (v : Values) (q : ℕ) → p ≡ pos q → r ≡ pos (after_pieces x q (pieces (shapes d) v (target d id.place) z))

pub record IsStmtRun (d : Design) (x : ℕ) (known : List ℤ) (id : StmtId) (p r : ℤ) : Type 0 where
  pub pattern : IsPattern r
  pub is : (v : Values) (test : ℕ → Bool) → AreRight d v known test → StmtReads x (stmt d id.place) test
      → (q : ℕ) → p ≡ pos q → r ≡ pos (after_pieces x q (taken (shapes d) v (stmt d id.place)))

pub record IsBlockRun (d : Design) (x : ℕ) (known : List ℤ) (ids : List StmtId) (p r : ℤ) : Type 0 where
  pub pattern : IsPattern r
  pub is : (v : Values) (test : ℕ → Bool) → AreRight d v known test → BlockReads x (block d ids) test
      → (q : ℕ) → p ≡ pos q → r ≡ pos (after_pieces x q (taken_block (shapes d) v (block d ids)))
