-- What the module of a design is, by way of its lowered design.
use Rattle.std.specs.Prelude.{List}
use Rattle.lx_circuit.specs.Reads.{HasOrder}
use Rattle.lx_vtext.specs.Tree.{Name, VModule}
use Rattle.lx_vtext.specs.Fits.{IsModule}
use Rattle.lx_vmeaning.specs.Cycle.{HasCycleMeaning}
use Rattle.lx_agree.specs.Agreement.{Agrees, HasPorts}
use Rattle.lx_fhdl.specs.Designs.{circuit_of}
use Rattle.lx_fhdl.specs.Keeping.{Keeps}
use Rattle.lx_fhdl.specs.declared.design.Design.{Design}
use Rattle.lx_emission.specs.Naming.{NamesFit, naming}
use Rattle.lx_emission.specs.Emits.{MemoriesFit, PortsFit}

-- A design that can be written: its reads have an order, its nets and memories have names, its ports stand once, no port of a
-- memory shows, and the ports that write one memory stand in one domain.
pub record CanBeWritten (d : Design) (names : List Name) : Type 0 where
  pub keeps : Keeps d
  pub order : HasOrder (circuit_of d)
  pub named : NamesFit d names
  pub ports : PortsFit d
  pub memories : MemoriesFit d

-- The module has a text and a cycle meaning, the design's ports, and after every list of steps the number of each signal and the
-- words of each memory.
pub record Writes (d : Design) (names : List Name) (m : VModule) : Type 0 where
  pub lawful : IsModule m
  pub meaning : HasCycleMeaning m
  pub ports : HasPorts (circuit_of d) (naming d names) m
  pub agrees : Agrees (circuit_of d) m (naming d names)
