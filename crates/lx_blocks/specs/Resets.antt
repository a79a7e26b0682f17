-- The reset of a clocked block, where one applies.
use Rattle.std.specs.Prelude.{ℕ, false, Option, Some, None}
use Rattle.lx_vtext.specs.Tree.{Name, Net, VStmt, When, NoElse, VBlock, EndBlock, InBlock}
use Rattle.lx_sheet.specs.Plans.{Plan}
use Rattle.lx_blocks.specs.Plans.{reset_assign_in}

-- the signal takes its reset value where the reset is high
abbrev pub reset_stmt : Plan → ℕ → Name → VStmt
reset_stmt p x reset = When (Net reset) (InBlock (reset_assign_in p false x) EndBlock) NoElse

abbrev pub block_by : Plan → ℕ → Option Name → VBlock
block_by p x None = EndBlock
block_by p x (Some reset) = InBlock (reset_stmt p x reset) EndBlock
