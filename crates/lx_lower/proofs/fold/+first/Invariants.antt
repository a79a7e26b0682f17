use Rattle.std.proofs.Common.{◌+◌, ◌*◌}
use Rattle.lx_lower.proofs.fold.+first.Given as goal

abbrev pub decreases-first_line : goal.decreases-first_line
decreases-first_line l = 2 * l.stmt.id.place + 1

abbrev pub decreases-first_line_in : goal.decreases-first_line_in
decreases-first_line_in l = 2 * l.stmts.bound
