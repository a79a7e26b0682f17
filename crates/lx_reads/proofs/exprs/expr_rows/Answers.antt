use Rattle.lx_reads.proofs.Items.{got_at}
use Rattle.lx_reads.proofs.Rows.{rows_more}
use Rattle.lx_reads.proofs.exprs.expr_rows.Goals as goal

pub loop-k-preserved : goal.loop-k-preserved
loop-k-preserved c =
    rw c.in_ok-push.ensures.ok
    (rows_more _ _ _ _ c.index-exprs-k.result c.requires.keeps c.loop-k.invariant (got_at _ _ _ _ c.as_slice-exprs.ensures c.loop-k-test.true c.index-exprs-k.is) (rw c.len-signals.ensures at c.in_ok-expr_row.ensures))
