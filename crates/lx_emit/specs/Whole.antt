-- The parts of a module.
use Rattle.std.specs.Prelude.{◌≡◌, List}
use Rattle.lx_vtext.specs.Tree.{Name}
use Rattle.lx_vtree.specs.declared.modules.Parts.{Parts}
use Rattle.lx_vtree.specs.Modules.{ArePlaced, module_of}
use Rattle.lx_fhdl.specs.declared.design.Design.{Design}
use Rattle.lx_emission.specs.Emission.{emitted}

-- the parts of the module of a design
pub record ArePartsOf (d : Design) (names : List Name) (p : Parts) : Type 0 where
  pub placed : ArePlaced p
  pub tree : module_of p ≡ emitted d names
