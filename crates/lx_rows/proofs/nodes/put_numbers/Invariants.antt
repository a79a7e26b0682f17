use Rattle.std.proofs.Common.{◌≡◌, ◌++◌, take, map}
use Rattle.lx_rows.specs.Forms.{number_of}
use Rattle.lx_rows.proofs.nodes.put_numbers.Given as goal

abbrev pub invariant-loop-row : goal.invariant-loop-row
invariant-loop-row l = l.exprs ≡ l.initial.exprs ++ map (λ row. number_of row.value row.bits) (take l.row-index l.numbers)
