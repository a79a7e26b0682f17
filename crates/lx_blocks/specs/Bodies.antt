-- Statements that are written: they are there, and each is for one signal.
use Rattle.std.specs.Prelude.{ℕ, ◌<◌, ◌≤◌, List, length, IsTrue}
use Rattle.lx_fhdl.specs.Below.{ExprId, TargetId, StmtId, all_stmts_below}
use Rattle.lx_fhdl.specs.Designs as designs
use Rattle.lx_fhdl.specs.Lowered.{ArePlain}
use Rattle.lx_fhdl.specs.declared.stmts.Branch.{Branch}
use Rattle.lx_sheet.specs.Drives.{IsPlainTarget}
use Rattle.lx_sheet.specs.Plans.{Plan}

-- the statements of a block, all below a bound
pub record IsBody (p : Plan) (bound : ℕ) (ids : List StmtId) : Type 0 where
  pub within : bound ≤ length p.design.stmts
  pub below : IsTrue (all_stmts_below bound ids)
  pub plain : ArePlain (designs.block p.design ids)

-- the one branch of a condition, and the rest
pub record IsChoice (p : Plan) (bound : ℕ) (branch : Branch) (rest : List StmtId) : Type 0 where
  pub under : branch.cond.place < length p.design.exprs
  pub then : IsBody p bound branch.body
  pub otherwise : IsBody p bound rest

-- a value for one signal, or for some of its bits
pub record IsAssignment (p : Plan) (to : TargetId) (from : ExprId) : Type 0 where
  pub target : to.place < length p.design.targets
  pub plain : IsPlainTarget (designs.target p.design to.place)
  pub value : from.place < length p.design.exprs
