-- What is counted once for all nodes of a design.
use Rattle.std.specs.Prelude.{◌≡◌, ℕ, ◌<◌, List, length, slice_index_or}
use Rattle.lx_fhdl.specs.declared.design.Design.{Design}
use Rattle.lx_width.specs.Shapes.{AreShapes}
use Rattle.lx_emission.specs.Naming.{nets_before}
use Rattle.lx_sheet.specs.Drives.{AreDrives}
use Rattle.lx_sheet.specs.Marks.{AreMarks}
use Rattle.lx_sheet.specs.declared.tables.Tables.{Tables}

-- the numbers of all nodes' nets: how many nodes before a node have nets
pub record AreNumbers (d : Design) (numbers : List ℕ) : Type 0 where
  pub long : length numbers ≡ length d.exprs
  pub each : (k : ℕ) → k < length d.exprs → slice_index_or numbers k 0 ≡ nets_before d.exprs k

-- the shapes and numbers of all nodes, and of each signal whether it is a port and how its net is driven
pub record AreTables (d : Design) (t : Tables) : Type 0 where
  pub shapes : AreShapes d t.shapes
  pub numbers : AreNumbers d t.numbers
  pub ports : AreMarks d t.ports
  pub drives : AreDrives d t.drives
