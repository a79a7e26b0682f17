-- Circuits whose ports of memories are driven or shared, worked by hand.
use Rattle.std.specs.Prelude.{◌≡◌, true, false, [], ◌∷◌, None, codes}
use Rattle.lx_text.specs.declared.faults.Kind.TheVariants.{StorageDriven}
use Rattle.lx_fhdl.specs.declared.design.Design.{Design}
use Rattle.lx_memory.specs.Alone.{shows_alone}
use Rattle.lx_check.specs.Faults.{fault, first_fault}
use Rattle.lx_check.specs.Worked.{design, of_a_port, read_driven, reading}
use Rattle.lx_translate.specs.Translation.{HasFault}

-- two ports show b
abbrev pub of_two_ports : Design
of_two_ports = design false [] [] [] (reading 1 ∷ reading 1 ∷ [])

-- What is told of them.
pub record AreWorked : Type 0 where
  pub alone : shows_alone of_a_port ≡ true
  -- a statement that drives a dat_r is told, whatever ports show
  pub driven : HasFault read_driven (fault 7 (StorageDriven (codes "b")))
  -- two ports with one dat_r are no fault of drivers
  pub two : first_fault of_two_ports ≡ None
  pub shared : shows_alone of_two_ports ≡ false
