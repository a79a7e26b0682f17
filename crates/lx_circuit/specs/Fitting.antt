-- Values that fit: of signals, of words, and of what ports show.
use Rattle.std.specs.Prelude.{◌≡◌, ℕ, ℤ, List, [], ◌∷◌, ◌≤◌}
use Rattle.lx_num.specs.Ints.{unsigned, Fits}
use Rattle.lx_circuit.specs.Places.{Values, At, Word, Kept}
use Rattle.lx_circuit.specs.Memories.{Mode, Async, WriteFirst, ReadFirst, NoChange, shown}
use Rattle.lx_circuit.specs.Circuit.{Circuit, Made, Input, Step, made, shapes, role, memory_at, port_at}

-- what a circuit keeps: each signal has a bit, and a reset value of its shape
pub record IsMade (m : Made) : Type 0 where
  pub some : 1 ≤ m.shape.bits
  pub fits : Fits m.shape m.reset

pub record KeepsShapes (c : Circuit) : Type 0 where
  pub each : (x : ℕ) → IsMade (made c x)

-- the inputs fit the shapes of their signals
pub record InputsFit (c : Circuit) (inputs : Values) : Type 0 where
  pub each : (x : ℕ) → role c x ≡ Input → Fits (shapes c x) (inputs (At x))

abbrev pub StepsFit : Circuit → List Step → Type 0
StepsFit c [] = Unit {0}
StepsFit c (t ∷ ts) = InputsFit c t.inputs × StepsFit c ts

-- a word of the memory, as a number: from 0 to 2 ^ width - 1
abbrev pub WordFits : Circuit → ℕ → ℤ → Type 0
WordFits c m z = Fits (unsigned (memory_at c m).width) z

-- data that a port keeps is a word of its memory; an address may be any number
abbrev pub KeptFits : Circuit → ℕ → Mode → ℤ → Type 0
KeptFits c m Async z = Unit {0}
KeptFits c m WriteFirst z = Unit {0}
KeptFits c m ReadFirst z = WordFits c m z
KeptFits c m NoChange z = WordFits c m z

-- a state fits: its signals their shapes, its words their memories, and what its ports keep
pub record StateFits (c : Circuit) (state : Values) : Type 0 where
  pub signals : (x : ℕ) → Fits (shapes c x) (state (At x))
  pub words : (m k : ℕ) → WordFits c m (state (Word m k))
  pub kept : (j : ℕ) → KeptFits c (port_at c j).memory (port_at c j).mode (state (Kept j))

-- settled values fit: signals their shapes, and words, and what each port shows, the width of their memories
pub record ValuesFit (c : Circuit) (v : Values) : Type 0 where
  pub signals : (x : ℕ) → Fits (shapes c x) (v (At x))
  pub words : (m k : ℕ) → WordFits c m (v (Word m k))
  pub shown : (j : ℕ) → WordFits c (port_at c j).memory (shown v j (port_at c j) (port_at c j).mode)
