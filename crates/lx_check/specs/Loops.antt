-- The cycle of reads that is told, and orders of signals.
use Rattle.std.specs.Prelude.{◌≡◌, ℕ, true, ◌<◌, List, [], ◌∷◌, ◌++◌, Option, Some, None, length, map}
use Rattle.std.specs.List.{Contains}
use Rattle.lx_circuit.specs.Places.{At}
use Rattle.lx_circuit.specs.Reads.{reads_in}
use Rattle.lx_fhdl.specs.Designs.{circuit_of, signal_number}
use Rattle.lx_fhdl.specs.declared.design.Design.{Design}
use Rattle.lx_fhdl.specs.declared.exprs.SigId.{SigId}
use Rattle.lx_graph.specs.Cycle.{IsTold}
use Rattle.lx_reads.specs.Drivings.{Driving, drivings, first_driving}
use Rattle.lx_check.specs.Faults.{any_driving, fault, signal_name}
use Rattle.lx_text.specs.declared.faults.Fault.{Fault}
use Rattle.lx_text.specs.declared.faults.Kind.TheVariants.{CombLoop}

-- a signal reads another in the same moment
abbrev pub Links : Design → ℕ → ℕ → Type 0
Links d x y = reads_in (circuit_of d) x (At y) ≡ true

-- ---- cycles

abbrev pub line_of : Option Driving → ℕ
line_of None = 0
line_of (Some a) = a.line

-- the line of the first assignment that drives a signal, or 0
abbrev pub first_line : Design → ℕ → ℕ
first_line d x = line_of (first_driving x any_driving (drivings d))

-- the fault that tells a cycle
abbrev pub loop_fault : Design → List ℕ → Fault
loop_fault d [] = fault 0 (CombLoop [])
loop_fault d (x ∷ others) = fault (first_line d x) (CombLoop (map (signal_name d) (x ∷ others)))

-- the told cycle of the reads, as a fault
pub record IsLoopFault (d : Design) (f : Fault) : Type 0 where
  pub cycle : List ℕ
  pub told : IsTold (Links d) cycle
  pub is : f ≡ loop_fault d cycle

-- ---- orders

-- a signal may come next after these: it isn't among them, and all that it reads is
pub record MayFollow (d : Design) (before : List ℕ) (x : ℕ) : Type 0 where
  pub there : x < length d.signals
  pub once : Contains before x → ⊥
  pub reads : (y : ℕ) → Links d x y → Contains before y

-- each of the signals may follow those before it
abbrev pub AreInTurn : Design → List ℕ → List ℕ → Type 0
AreInTurn d before [] = Unit {0}
AreInTurn d before (x ∷ others) = MayFollow d before x × AreInTurn d (before ++ x ∷ []) others

abbrev pub numbers_of : List SigId → List ℕ
numbers_of order = map signal_number order

-- all signals, each once and after those that it reads
pub record IsReadOrder (d : Design) (order : List SigId) : Type 0 where
  pub all : (x : ℕ) → x < length d.signals → Contains (numbers_of order) x
  pub turns : AreInTurn d [] (numbers_of order)
