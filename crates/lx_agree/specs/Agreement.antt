-- When a Verilog module gives what a circuit means.
use Rattle.std.specs.Prelude.{◌≡◌, ℕ, ℤ, Bool, true, false, List, [], ◌∷◌, ◌++◌, Option, Some, None, option_map, ◌+◌, ◌<◌, ◌^◌, length, map}
use Rattle.lx_num.specs.declared.Shape.{Shape}
use Rattle.lx_num.specs.Ints.{modulo, read_bits, shape}
use Rattle.lx_circuit.specs.Places.{Values, At, Word}
use Rattle.lx_circuit.specs.Circuit.{Circuit, Domain, Step, Role, Input, role, shapes, memory_at, IsView}
use Rattle.lx_circuit.specs.Fitting.{InputsFit, StepsFit}
use Rattle.lx_vtext.specs.Tree.{Name, VNet, VMemory, VPort, VModule}
use Rattle.lx_vmeaning.specs.Meaning.{Valuation}
use Rattle.lx_vmeaning.specs.Runs.{VStep, IsVView, all_nets, net_named, decl_memories, memory_named}

-- the net of each signal, the clock of each domain, and the name of each memory
pub record Naming : Type 0 where
  pub net : ℕ → Name
  pub clock : ℕ → Name
  pub memory : ℕ → Name

-- the pattern of a number in the bits of a signal
abbrev pub pattern : Circuit → ℕ → ℤ → ℕ
pattern c x z = modulo z (2 ^ (shapes c x).bits)

-- the number that a pattern in the bits of a signal stands for
abbrev pub number : Circuit → ℕ → ℕ → ℤ
number c x p = read_bits (shapes c x).bits (shapes c x).signed p

-- each input has its net's pattern
pub record SameInputs (c : Circuit) (names : Naming) (inputs : Values) (nets : Name → ℕ) : Type 0 where
  pub each : (x : ℕ) → role c x ≡ Input → nets (names.net x) ≡ pattern c x (inputs (At x))

-- the same inputs, and the same edges
pub record SameStep (c : Circuit) (names : Naming) (s : Step) (t : VStep) : Type 0 where
  pub inputs : SameInputs c names s.inputs t.inputs
  pub rises : (d : ℕ) → d < length c.domains → t.rises (names.clock d) ≡ s.rises d

abbrev pub SameSteps : Circuit → Naming → List Step → List VStep → Type 0
SameSteps c names [] [] = Unit {0}
SameSteps c names (s ∷ ss) (t ∷ ts) = SameStep c names s t × SameSteps c names ss ts
SameSteps c names _ _ = ⊥

-- One run: the same steps and the same final inputs, all of them fitting.
pub record SameRun (c : Circuit) (names : Naming) (steps : List Step) (inputs : Values) (v_steps : List VStep)
    (v_inputs : Name → ℕ) : Type 0 where
  pub fitting_steps : StepsFit c steps
  pub fitting_inputs : InputsFit c inputs
  pub same_steps : SameSteps c names steps v_steps
  pub same_inputs : SameInputs c names inputs v_inputs

-- the width and sign that a net is declared with
abbrev pub net_shape : VNet → Shape
net_shape n = shape n.bits n.signed

-- the bits of a word and the number of words
pub record Size : Type 0 where
  pub width : ℕ
  pub depth : ℕ

abbrev pub declared_size : VMemory → Size
declared_size x = record { width = x.bits; depth = x.depth }

abbrev pub size : Circuit → ℕ → Size
size c m = record { width = (memory_at c m).width; depth = (memory_at c m).depth }

-- Each signal's net is declared with the signal's width and sign, and each memory with its size:
-- an undeclared name would be a net that nothing drives.
pub record Declares (c : Circuit) (m : VModule) (names : Naming) : Type 0 where
  pub nets : (x : ℕ) → x < length c.signals → option_map net_shape (net_named (names.net x) (all_nets m)) ≡ Some (shapes c x)
  pub memories : (k : ℕ) → k < length c.memories
      → option_map declared_size (memory_named (names.memory k) (decl_memories m.decls)) ≡ Some (size c k)

-- the words of the circuit's memories are in the module's
abbrev pub SameWords : Circuit → Naming → Values → Valuation → Type 0
SameWords c names v w =
    (m k : ℕ) → k < (memory_at c m).depth → w.words (names.memory m) k ≡ modulo (v (Word m k)) (2 ^ (memory_at c m).width)

-- each signal has the number of its net, and each word its pattern
pub record SameView (c : Circuit) (names : Naming) (v : Values) (w : Valuation) : Type 0 where
  pub signals : (x : ℕ) → x < length c.signals → v (At x) ≡ number c x (w.nets (names.net x))
  pub words : SameWords c names v w

-- The module declares the circuit's signals and memories, both have a view after every run, and these are the same.
pub record Agrees (c : Circuit) (m : VModule) (names : Naming) : Type 0 where
  pub declares : Declares c m names
  pub view : (steps : List Step) (inputs : Values) → (v : Values) × IsView c steps inputs v
  pub v_view : (steps : List VStep) (inputs : Name → ℕ) → (w : Valuation) × IsVView m steps inputs w
  pub same : (steps : List Step) (inputs : Values) (v_steps : List VStep) (v_inputs : Name → ℕ)
      → SameRun c names steps inputs v_steps v_inputs
      → (v : Values) (w : Valuation) → IsView c steps inputs v → IsVView m v_steps v_inputs w → SameView c names v w

-- what a port shows
pub record PortOf : Type 0 where
  pub is_input : Bool
  pub signed : Bool
  pub bits : ℕ
  pub name : Name

abbrev pub shown_port : VPort → PortOf
shown_port p = record { is_input = p.is_input; signed = p.net.signed; bits = p.net.bits; name = p.net.name }

abbrev pub is_input_role : Role → Bool
is_input_role Input = true
is_input_role _ = false

abbrev pub signal_port : Circuit → Naming → ℕ → PortOf
signal_port c names x = record { is_input = is_input_role (role c x); signed = (shapes c x).signed; bits = (shapes c x).bits; name = names.net x }

abbrev pub reset_port : Circuit → Naming → Option ℕ → List PortOf
reset_port c names None = []
reset_port c names (Some r) = signal_port c names r ∷ []

-- the clock and the reset of each domain, from the domain of number k on
abbrev pub domain_ports : Circuit → Naming → ℕ → List Domain → List PortOf
domain_ports c names k [] = []
domain_ports c names k (d ∷ ds) =
    record { is_input = true; signed = false; bits = 1; name = names.clock k }
    ∷ (reset_port c names d.reset ++ domain_ports c names (k + 1) ds)

-- The ports: per domain its clock and its reset, then the circuit's in their order.
abbrev pub ports_of : Circuit → Naming → List PortOf
ports_of c names = domain_ports c names 0 c.domains ++ map (λ x. signal_port c names x) c.ios

abbrev pub HasPorts : Circuit → Naming → VModule → Type 0
HasPorts c names m = map shown_port m.ports ≡ ports_of c names
