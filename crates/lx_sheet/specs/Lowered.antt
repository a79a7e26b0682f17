-- Lowered designs whose modules are made.
use Rattle.lx_fhdl.specs.Keeping.{Keeps}
use Rattle.lx_fhdl.specs.Lowered.{IsLowered}
use Rattle.lx_fhdl.specs.declared.design.Design.{Design}
use Rattle.lx_emission.specs.Emits.{MemoriesFit}

-- it keeps what designs keep, and its memories fit
pub record IsFit (d : Design) : Type 0 where
  pub keeps : Keeps d
  pub lowered : IsLowered d
  pub memories : MemoriesFit d
