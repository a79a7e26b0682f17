-- What the parts of the proof tell one another: how nets are declared, what patterns they have, and what is read.
use Rattle.std.proofs.Common.{◌≡◌, ℕ, Bool, true, not, List, ◌<◌, ◌^◌, length, ◌⊎◌}
use Rattle.std.specs.Prelude.{[], ◌∷◌, Option, Some, None, slice_get}
use Rattle.std.specs.Str.{bytes_eq}
use Rattle.lx_num.specs.Ints.{Fits, modulo}
use Rattle.lx_circuit.specs.Terms.{Term}
use Rattle.lx_circuit.specs.Places.{Values, At, Word}
use Rattle.lx_circuit.specs.Values.{value_of, is_zero}
use Rattle.lx_circuit.specs.Reads as circuit
use Rattle.lx_vtext.specs.Tree.{Name, VExpr, VBlock, VModule}
use Rattle.lx_vtext.specs.Fits.{IsExpr}
use Rattle.lx_vmeaning.specs.Meaning.{Declared, Sizes, Valuation, assigned, holds}
use Rattle.lx_vmeaning.specs.Runs as runs
use Rattle.lx_vmeaning.specs.Runs.{sizes, sets_block}
use Rattle.lx_vmeaning.specs.Naming.{is_memory, is_readable, names_fit}
use Rattle.lx_vmeaning.proofs.Owns.{owns_fit}
use Rattle.lx_fhdl.specs.Nodes.{IsSmall}
use Rattle.lx_fhdl.specs.Designs.{term, shapes, memory_at, circuit_of}
use Rattle.lx_fhdl.specs.declared.exprs.Expr.{Expr}
use Rattle.lx_fhdl.specs.declared.design.Design.{Design}
use Rattle.lx_tie.specs.Words.{memory, HasWords}
use Rattle.lx_emission.specs.Naming.{net, has_net, node_net, memory_name}
use Rattle.lx_emission.specs.Nodes.{node_shape, operand}
use Rattle.lx_emission.specs.Signals.{Drive, Input, Undriven, CombAssign, CombBlock, Sync, drive, reset_text, comb_body, sync_body}
use Rattle.lx_emission.specs.Naming as naming
use Rattle.lx_emission.specs.Memories.{memory_body, writing_domain}

-- ---- nets and memories

abbrev pub declared : ℕ → Bool → Declared
declared bits signed = record { bits = bits; signed = signed; depth = 0 }

-- the node at a place has a net
pub record IsNetNode (d : Design) (k : ℕ) : Type 0 where
  pub node : Expr
  pub there : slice_get d.exprs k ≡ Some node
  pub net : has_net node ≡ true

-- nets are declared with the shapes of their signals and nodes, and memories with their sizes
pub record DeclaresNets (d : Design) (names : List Name) (s : Sizes) : Type 0 where
  pub signals : (x : ℕ) → x < length d.signals → s (net names x) ≡ declared (shapes d x).bits (shapes d x).signed
  pub nodes : (k : ℕ) → IsNetNode d k → s (node_net d.exprs k) ≡ declared (node_shape d k).bits (node_shape d k).signed
  pub memories : (k : ℕ) → k < length d.memories → s (memory_name d names k) ≡ memory (memory_at d k).width (memory_at d k).depth

-- nets have the patterns of the values of their signals and nodes, and memories those of their words
pub record HasPatterns (d : Design) (names : List Name) (v : Values) (w : Valuation) : Type 0 where
  pub signals : (x : ℕ) → x < length d.signals → w.nets (net names x) ≡ modulo (v (At x)) (2 ^ (shapes d x).bits)
  pub nodes : (k : ℕ) → IsNetNode d k → w.nets (node_net d.exprs k) ≡ modulo (value_of (shapes d) v (term d k)) (2 ^ (node_shape d k).bits)
  pub memories : (k : ℕ) → k < length d.memories
      → HasWords w (memory_name d names k) (memory_at d k).width (memory_at d k).depth (λ a. v (Word k a))

-- the values of signals fit
pub record SignalsFit (d : Design) (v : Values) : Type 0 where
  pub each : (x : ℕ) → Fits (shapes d x) (v (At x))

-- what a module lets its expressions and blocks name
pub record LetsRead (d : Design) (names : List Name) (m : VModule) : Type 0 where
  pub declares : DeclaresNets d names (sizes m)
  pub signals : (x : ℕ) → x < length d.signals → is_readable m (net names x) ≡ true
  pub nodes : (k : ℕ) → IsNetNode d k → is_readable m (node_net d.exprs k) ≡ true
  pub memories : (k : ℕ) → k < length d.memories → is_memory m (memory_name d names k) ≡ true

-- a name is the net of a signal that an expression names
pub record IsSignalOf (d : Design) (names : List Name) (t : Term) (n : Name) : Type 0 where
  pub signal : ℕ
  pub within : signal < length d.signals
  pub same : n ≡ net names signal
  pub named : circuit.names (At signal) t ≡ true

-- a name is the net of a node below a bound, all of whose signals an expression names
pub record IsNodeOf (d : Design) (bound : ℕ) (t : Term) (n : Name) : Type 0 where
  pub place : ℕ
  pub within : place < length d.exprs
  pub below : place < bound
  pub is_node : IsNetNode d place
  pub same : n ≡ node_net d.exprs place
  pub signals : (y : ℕ) → circuit.names (At y) (term d place) ≡ true → circuit.names (At y) t ≡ true

-- what the text of an expression may read, its nodes all below a bound
abbrev pub MayRead : Design → List Name → ℕ → Term → Name → Type 0
MayRead d names bound t n = IsSignalOf d names t n ⊎ IsNodeOf d bound t n

-- expressions have 1 to 127 bits, and values that fit
pub record TermsAreSmall (d : Design) : Type 0 where
  pub each : (k : ℕ) → k < length d.exprs → IsSmall (node_shape d k)

pub record TermsFit (d : Design) (v : Values) : Type 0 where
  pub each : (k : ℕ) → k < length d.exprs → Fits (node_shape d k) (value_of (shapes d) v (term d k))

-- the text of each node stands for its value: as a right side, and as a condition
pub record OperandsStand (d : Design) (names : List Name) (s : Sizes) (v : Values) (w : Valuation) : Type 0 where
  pub assigned : (k : ℕ) → k < length d.exprs → (n : ℕ) → assigned s w n (operand d names k) ≡ modulo (value_of (shapes d) v (term d k)) (2 ^ n)
  pub holds : (k : ℕ) → k < length d.exprs → holds s w (operand d names k) ≡ not (is_zero (value_of (shapes d) v (term d k)))

-- an expression that may stand in the module: its names are used as declared, and its own widths are 1 to 128
pub record IsFit (m : VModule) (e : VExpr) : Type 0 where
  pub names : names_fit m e ≡ true
  pub widths : owns_fit (sizes m) e ≡ true

-- the text of each node may stand in the module
pub record OperandsFit (d : Design) (names : List Name) (m : VModule) : Type 0 where
  pub each : (k : ℕ) → k < length d.exprs → IsFit m (operand d names k)

-- and has few brackets
pub record OperandsAreLawful (d : Design) (names : List Name) : Type 0 where
  pub each : (k b : ℕ) → k < length d.exprs → IsExpr b (operand d names k)

-- what drives the net of a signal, as the module has it
abbrev pub driver_by : Design → List Name → ℕ → Drive → runs.Driver
driver_by d names x Input = runs.Outside
driver_by d names x Undriven = runs.ByAssign (reset_text d x)
driver_by d names x (CombAssign value) = runs.ByAssign (operand d names value.place)
driver_by d names x (CombBlock body) = runs.ByBlock (comb_body d names x body)
driver_by d names x (Sync k body) = runs.Clocked (naming.clock d k) (sync_body d names x k body)

-- what writes a memory: the block of its writers
abbrev pub clocked_drivers : Design → VBlock → Option ℕ → List runs.Driver
clocked_drivers d body None = []
clocked_drivers d body (Some x) = runs.Clocked (naming.clock d x) body ∷ []

abbrev pub memory_drivers : Design → List Name → ℕ → List runs.Driver
memory_drivers d names k = clocked_drivers d (memory_body d names k) (writing_domain k (circuit_of d).ports)

abbrev pub SetsAlone : Design → List Name → ℕ → Drive → Type 0
SetsAlone d names x Input = Unit {0}
SetsAlone d names x Undriven = Unit {0}
SetsAlone d names x (CombAssign value) = Unit {0}
SetsAlone d names x (CombBlock body) = (n : Name) → sets_block n (comb_body d names x body) ≡ bytes_eq (net names x) n
SetsAlone d names x (Sync k body) = (n : Name) → sets_block n (sync_body d names x k body) ≡ bytes_eq (net names x) n

-- the block of a memory's writers writes this memory alone
abbrev pub WritesAlone : Design → List Name → ℕ → Option ℕ → Type 0
WritesAlone d names k None = Unit {0}
WritesAlone d names k (Some x) = (n : Name) → sets_block n (memory_body d names k) ≡ bytes_eq (memory_name d names k) n

-- the block of each signal assigns its net alone, and that of each memory's writers the memory
pub record BlocksSetAlone (d : Design) (names : List Name) : Type 0 where
  pub each : (x : ℕ) → x < length d.signals → SetsAlone d names x (drive d x)
  pub memories : (k : ℕ) → k < length d.memories → WritesAlone d names k (writing_domain k (circuit_of d).ports)
