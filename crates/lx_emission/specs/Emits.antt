-- What the module of a lowered design is.
use Rattle.std.specs.Prelude.{◌≡◌, ℕ, Bool, true, not, ◌&&◌, List, [], ◌∷◌, None, is_some, IsTrue}
use Rattle.lx_circuit.specs.Memories as memory
use Rattle.lx_circuit.specs.Circuit as circuit
use Rattle.lx_circuit.specs.Reads.{HasOrder}
use Rattle.lx_vtext.specs.Tree.{Name, VModule}
use Rattle.lx_vtext.specs.Fits.{IsModule}
use Rattle.lx_vmeaning.specs.Cycle.{HasCycleMeaning}
use Rattle.lx_agree.specs.Agreement.{Agrees, HasPorts}
use Rattle.lx_fhdl.specs.Designs.{circuit_of}
use Rattle.lx_fhdl.specs.Keeping.{Keeps, EachOf}
use Rattle.lx_fhdl.specs.Lowered.{IsLowered}
use Rattle.lx_fhdl.specs.declared.design.Design.{Design}
use Rattle.lx_emission.specs.Naming.{NamesFit, naming}
use Rattle.lx_emission.specs.Memories.{writing_domain}
use Rattle.lx_emission.specs.Emission.{decls_of, emitted}

abbrev pub are_once : List ℕ → Bool
are_once [] = true
are_once (x ∷ xs) = not (circuit.is_among x xs) && are_once xs

abbrev pub none_is_reset : List ℕ → List circuit.Domain → Bool
none_is_reset [] ds = true
none_is_reset (x ∷ xs) ds = not (circuit.is_some_reset x ds) && none_is_reset xs ds

-- each port once, and no domain's reset among them
pub record PortsFit (d : Design) : Type 0 where
  pub once : IsTrue (are_once (circuit_of d).ios)
  pub resets : IsTrue (none_is_reset (circuit_of d).ios (circuit_of d).domains)

-- the port shows nothing: memories are read by expressions alone
abbrev pub ShowsNothing : memory.Port → Type 0
ShowsNothing q = q.reader ≡ None

-- a port that writes stands in the domain of the first port that writes its memory
abbrev pub IsWithFirst : List memory.Port → memory.Port → Type 0
IsWithFirst qs q = is_some q.writer ≡ true → q.domain ≡ writing_domain q.memory qs

-- No port reads, and the ports that write one memory stand in one domain.
pub record MemoriesFit (d : Design) : Type 0 where
  pub show_nothing : EachOf ShowsNothing (circuit_of d).ports
  pub one_domain : EachOf (IsWithFirst (circuit_of d).ports) (circuit_of d).ports

-- A lowered design that can be written: its reads have an order, its nets and memories have names, and its memories fit.
pub record CanBeEmitted (d : Design) (names : List Name) : Type 0 where
  pub keeps : Keeps d
  pub lowered : IsLowered d
  pub order : HasOrder (circuit_of d)
  pub named : NamesFit d names
  pub ports : PortsFit d
  pub memories : MemoriesFit d

-- The module has a text and a cycle meaning, so no expression has more than 128 bits in its context; it has the design's ports,
-- a net for each signal, each memory, and a net for each operator, slice and read of a memory in order; and after every list of
-- steps each signal has the number of its net, and each word that of the module's.
pub record Emits (d : Design) (names : List Name) (m : VModule) : Type 0 where
  pub lawful : IsModule m
  pub meaning : HasCycleMeaning m
  pub ports : HasPorts (circuit_of d) (naming d names) m
  pub nets : m.decls ≡ decls_of d names
  pub agrees : Agrees (circuit_of d) m (naming d names)

-- The module of each lowered design does so.
abbrev pub IsEmissionLaw : Type 0
IsEmissionLaw = (d : Design) (names : List Name) → CanBeEmitted d names → Emits d names (emitted d names)
