use Rattle.lx_reads.specs.Net.{AreExprRows}
use Rattle.lx_reads.proofs.exprs.expr_rows.Given as goal

abbrev pub invariant-loop-k : goal.invariant-loop-k
invariant-loop-k l = AreExprRows l.design l.k l.rows
