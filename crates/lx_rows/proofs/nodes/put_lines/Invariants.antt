use Rattle.std.proofs.Common.{◌≡◌, ◌++◌, take, map}
use Rattle.lx_rows.specs.Forms.{line_of}
use Rattle.lx_rows.proofs.nodes.put_lines.Given as goal

abbrev pub invariant-loop-row : goal.invariant-loop-row
invariant-loop-row l = l.stmts ≡ l.initial.stmts ++ map (λ row. line_of row.target row.value row.line) (take l.row-index l.lines)
