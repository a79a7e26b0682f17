-- What is fixed when a simulator is made.
use Rattle.std.specs.Prelude.{◌≡◌, ℕ, ◌<◌, Some, length, slice_get}
use Rattle.lx_circuit.specs.Reads.{HasOrder}
use Rattle.lx_emission.specs.Emits.{MemoriesFit}
use Rattle.lx_fhdl.specs.Designs.{circuit_of}
use Rattle.lx_fhdl.specs.Keeping.{Keeps}
use Rattle.lx_fhdl.specs.Lowered.{IsLowered}
use Rattle.lx_fhdl.specs.declared.design.Design.{Design}
use Rattle.lx_sheet.specs.Drives.{AreDrives}
use Rattle.lx_width.specs.Shapes.{AreShapes}
use Rattle.lx_lower.specs.Lowers.{IsLoweringOf}
use Rattle.lx_sim.specs.declared.plan.Plan.{Plan}
use Rattle.lx_sim.specs.Orders.{HasBuckets}
use Rattle.lx_sim.specs.Words.{AreWithoutWords}

-- a lowered design no port of which shows anything, what drives its signals, and an order of its signals and expressions
pub record IsPlan (p : Plan) : Type 0 where
  pub keeps : Keeps p.design
  pub lowered : IsLowered p.design
  pub memories : MemoriesFit p.design
  pub exprs : AreWithoutWords p.design.exprs (length p.design.exprs) p.exprs
  pub shapes : AreShapes p.design p.shapes
  pub drives : AreDrives p.design p.drives
  pub below : (i x : ℕ) → slice_get p.order i ≡ Some x → x < length p.design.signals
  pub buckets : HasBuckets p.design p.order p.buckets

-- the plan of a design, whose reads have an order
pub record IsPlanOf (d : Design) (p : Plan) : Type 0 where
  pub plan : IsPlan p
  pub lowering : IsLoweringOf d p.design
  pub order : HasOrder (circuit_of d)
