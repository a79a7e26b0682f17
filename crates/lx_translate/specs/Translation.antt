-- What the text of a circuit is, and which circuits have one.
use Rattle.std.specs.Prelude.{◌≡◌, ℕ, true, false, List, Result, Ok, Err, ◌⊎◌}
use Rattle.lx_text.specs.declared.faults.Fault.{Fault}
use Rattle.lx_text.specs.declared.faults.Kind.TheVariants as kind
use Rattle.lx_text.specs.declared.faults.Refusal.{Refusal}
use Rattle.lx_text.specs.declared.faults.Refusal.TheVariants as refusal
use Rattle.lx_vtext.specs.Tree.{Name, VModule}
use Rattle.lx_vtext.specs.Printed.{module_text}
use Rattle.lx_fhdl.specs.Designs.{circuit_of}
use Rattle.lx_fhdl.specs.declared.design.Design.{Design}
use Rattle.lx_reads.specs.Drivings.{drivings}
use Rattle.lx_memory.specs.Alone.{shows_alone}
use Rattle.lx_check.specs.Checked.{IsSound, HasCheckFault}
use Rattle.lx_namer.specs.Names.{names_of}
use Rattle.lx_write.specs.Writes.{Writes}

-- A circuit without a fault: one driver for each signal, an order of its reads, and a name for each net; and each dat_r is that of
-- one port, and no statement drives it.
pub record IsFaultless (d : Design) : Type 0 where
  pub sound : IsSound d
  pub names : List Name
  pub named : names_of d ≡ Ok names
  pub alone : shows_alone d ≡ true

-- Otherwise it has no fault, but a dat_r is that of two ports, or a statement that has no line drives it: that isn't built yet.
-- No description is known that comes to such a circuit.
pub record IsNotBuilt (d : Design) (f : Fault) : Type 0 where
  pub sound : IsSound d
  pub names : List Name
  pub named : names_of d ≡ Ok names
  pub shared : shows_alone d ≡ false
  pub fault : f ≡ record { line = 0; kind = kind.NotYetBuilt }

-- its first fault: of drivers and cycles, else of names, else that it is not built yet
abbrev pub HasFault : Design → Fault → Type 0
HasFault d f = HasCheckFault d f ⊎ ((IsSound d × (names_of d ≡ Err f)) ⊎ IsNotBuilt d f)

-- Two designs of one circuit, with the same signals, ports, domains and memories, and whose assignments have the same lines.
pub record AreAlike (a b : Design) : Type 0 where
  pub circuit : circuit_of a ≡ circuit_of b
  pub signals : a.signals ≡ b.signals
  pub ios : a.ios ≡ b.ios
  pub domains : a.domains ≡ b.domains
  pub memories : a.memories ≡ b.memories
  pub ports : a.ports ≡ b.ports
  pub drivings : drivings a ≡ drivings b

-- The text is that of a module with the circuit's names, which gives what the circuit means, whatever its memories' ports: it
-- has a text that is no other module's, a cycle meaning, and the circuit's ports; and after every list of steps, for all inputs
-- that fit, each signal has the number of its net, and each word of a memory its pattern.
pub record IsTextOf (d : Design) (text : List ℕ) : Type 0 where
  pub names : List Name
  pub named : names_of d ≡ Ok names
  pub tree : VModule
  pub gives : Writes d names tree
  pub written : text ≡ module_text tree

-- want of memory aside, a circuit has its text or its first fault
abbrev pub Translates : Design → Result (List ℕ) Refusal → Type 0
Translates d (Ok text) = IsFaultless d × IsTextOf d text
Translates d (Err (refusal.Fault f)) = HasFault d f
Translates d (Err refusal.NoMemory) = Unit {0}
