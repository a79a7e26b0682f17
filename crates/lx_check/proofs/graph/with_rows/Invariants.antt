use Rattle.std.proofs.Common.{◌≡◌}
use Rattle.lx_check.specs.Graphs.{HasRows}
use Rattle.lx_check.proofs.graph.with_rows.Given as goal

abbrev pub invariant-loop-row : goal.invariant-loop-row
invariant-loop-row l = (l.row-items ≡ l.net.rows) × HasRows l.design l.net l.row-index l.graph
