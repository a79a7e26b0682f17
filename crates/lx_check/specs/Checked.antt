-- What the check of a design answers.
use Rattle.std.specs.Prelude.{◌≡◌, ◌⊎◌, List, Option, Some, None, Result, Ok, Err}
use Rattle.lx_circuit.specs.Reads.{HasOrder}
use Rattle.lx_fhdl.specs.Designs.{circuit_of}
use Rattle.lx_fhdl.specs.declared.design.Design.{Design}
use Rattle.lx_fhdl.specs.declared.exprs.SigId.{SigId}
use Rattle.lx_text.specs.declared.faults.Fault.{Fault}
use Rattle.lx_text.specs.declared.faults.Refusal.{Refusal}
use Rattle.lx_text.specs.declared.faults.Refusal.TheVariants as refusal
use Rattle.lx_check.specs.Faults.{first_fault}
use Rattle.lx_check.specs.Loops.{IsLoopFault, IsReadOrder}

-- a design without a fault: no signal reads itself through others
pub record IsSound (d : Design) : Type 0 where
  pub faultless : first_fault d ≡ None
  pub order : HasOrder (circuit_of d)

-- the first fault of the drivers and memories, or else the told cycle
abbrev pub HasCheckFault : Design → Fault → Type 0
HasCheckFault d f = (first_fault d ≡ Some f) ⊎ ((first_fault d ≡ None) × IsLoopFault d f)

abbrev pub IsRefusedFor : Design → Refusal → Type 0
IsRefusedFor d (refusal.Fault f) = HasCheckFault d f
IsRefusedFor d refusal.NoMemory = Unit {0}

-- want of memory aside: a design without a fault, with an order of its signals, or its fault
abbrev pub Checks : Design → Result (List SigId) Refusal → Type 0
Checks d (Ok order) = IsSound d × IsReadOrder d order
Checks d (Err r) = IsRefusedFor d r

-- a design that is accepted has no fault
abbrev pub SoundHasNone : Type 0
SoundHasNone = (d : Design) (f : Fault) → IsSound d → HasCheckFault d f → ⊥
