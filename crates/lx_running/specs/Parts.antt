-- What is kept of a circuit that is run, and what its making answers.
use Rattle.std.specs.Prelude.{◌≡◌, ℕ, ◌<◌, ◌≤◌, List, Result, Ok, Err, length}
use Rattle.lx_circuit.specs.Circuit.{role}
use Rattle.lx_text.specs.declared.faults.Refusal.{Refusal}
use Rattle.lx_text.specs.declared.faults.Refusal.TheVariants as refusal
use Rattle.lx_fhdl.specs.Designs.{circuit_of}
use Rattle.lx_fhdl.specs.Keeping.{Keeps}
use Rattle.lx_fhdl.specs.declared.design.Design.{Design}
use Rattle.lx_emission.specs.Naming.{NamesFit}
use Rattle.lx_memory.specs.Lowers.{IsPortsOf, ShowAlone}
use Rattle.lx_namer.specs.Names.{names_of}
use Rattle.lx_namer.specs.declared.nets.Names.{Names}
use Rattle.lx_trace.specs.Traces.{is_input}
use Rattle.lx_translate.specs.Translation.{HasFault, IsFaultless}

-- a circuit without a fault, with these names
pub record AreNamesOf (d : Design) (names : List (List ℕ)) : Type 0 where
  pub faultless : IsFaultless d
  pub named : names_of d ≡ Ok names
  pub fit : NamesFit d names
  pub alone : ShowAlone (circuit_of d)

-- its names, or its first fault
abbrev pub IsNaming : Design → Result Names Refusal → Type 0
IsNaming d (Ok names) = AreNamesOf d names.words
IsNaming d (Err (refusal.Fault f)) = HasFault d f
IsNaming d (Err refusal.NoMemory) = Unit {0}

-- a circuit without a fault, its names, and the circuit with its ports lowered
pub record IsRunner (d : Design) (names : List (List ℕ)) (lowered : Design) : Type 0 where
  pub keeps : Keeps d
  pub named : AreNamesOf d names
  pub ports : IsPortsOf d lowered

-- what runs this circuit, or the circuit's first fault
abbrev pub Readies : Design → Result Design Refusal → Type 0
Readies d (Ok e) = IsFaultless d × (e ≡ d)
Readies d (Err (refusal.Fault f)) = HasFault d f
Readies d (Err refusal.NoMemory) = Unit {0}

-- the signals of the one design stand in the other, and the same of them are inputs
pub record HaveInputs (d e : Design) : Type 0 where
  pub longer : length d.signals ≤ length e.signals
  pub same : (x : ℕ) → x < length d.signals → is_input (role (circuit_of d) x) ≡ is_input (role (circuit_of e) x)
