-- When a module has a cycle meaning: this project's two-state profile of IEEE 1364-2005.
use Rattle.lx_vtext.specs.Tree.{VModule}
use Rattle.lx_vmeaning.specs.Naming.{HasNames}
use Rattle.lx_vmeaning.specs.Widths.{HasWidths}
use Rattle.lx_vmeaning.specs.Driving.{HasDrivers}
use Rattle.lx_vmeaning.specs.Blocks.{HasBlocks}
use Rattle.lx_vmeaning.specs.Loops.{HasNoLoop}

-- The module has a cycle meaning. A reader tells the faults of its text in this order.
pub record HasCycleMeaning (m : VModule) : Type 0 where
  pub names : HasNames m
  pub widths : HasWidths m
  pub drivers : HasDrivers m
  pub blocks : HasBlocks m
  pub no_loop : HasNoLoop m
