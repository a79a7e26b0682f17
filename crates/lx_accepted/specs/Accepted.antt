-- What the check says of a design with its ports lowered.
use Rattle.std.specs.Prelude.{◌≡◌, ℕ, None}
use Rattle.lx_fhdl.specs.Designs.{circuit_of}
use Rattle.lx_fhdl.specs.Keeping.{Keeps}
use Rattle.lx_fhdl.specs.declared.design.Design.{Design}
use Rattle.lx_memory.specs.Lowers.{IsPortsOf, ShowAlone}
use Rattle.lx_check.specs.Checked.{HasCheckFault, IsSound}
use Rattle.lx_check.specs.Faults.{first_fault, memory_clocks, storage_driven, two_drivers}
use Rattle.lx_text.specs.declared.faults.Fault.{Fault}

-- p is d with its ports lowered, where each dat_r of d is that of one port and nothing else drives it
pub record IsLoweredFrom (d p : Design) : Type 0 where
  pub keeps : Keeps d
  pub alone : ShowAlone (circuit_of d)
  pub ports : IsPortsOf d p

-- No signal has two drivers, and none is an output that a statement of the description drives, where that is so in d; memories
-- are written in as many domains as they are in d.
pub record FaultsStay (d p : Design) : Type 0 where
  pub two : (x : ℕ) → two_drivers d x ≡ None → two_drivers p x ≡ None
  pub storage : (x : ℕ) → storage_driven d x ≡ None → storage_driven p x ≡ None
  pub clocks : (m : ℕ) → memory_clocks p m ≡ memory_clocks d m
  -- so p has none of these faults where d has none
  pub none : first_fault d ≡ None → first_fault p ≡ None

abbrev pub DriversLaw : Type 0
DriversLaw = (d p : Design) → IsLoweredFrom d p → FaultsStay d p

-- the check has no fault by which it could refuse p, and an order of its reads
pub record IsAccepted (p : Design) : Type 0 where
  pub sound : IsSound p
  pub faults : (f : Fault) → HasCheckFault p f → ⊥

abbrev pub AcceptedLaw : Type 0
AcceptedLaw = (d p : Design) → IsLoweredFrom d p → IsSound d → IsAccepted p
