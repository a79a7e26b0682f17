use Rattle.std.proofs.Common.{◌≡◌, take, map}
use Rattle.lx_rows.specs.Forms.{arm_of}
use Rattle.lx_rows.proofs.nodes.arms.Given as goal

abbrev pub invariant-loop-row : goal.invariant-loop-row
invariant-loop-row l = l.arms ≡ map (λ row. arm_of row.key row.stmt) (take l.row-index l.rows)
