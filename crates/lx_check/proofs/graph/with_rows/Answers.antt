use Rattle.std.proofs.Common.{arith}
use Rattle.lx_check.proofs.Graphing.{row_fits, rows_done, rows_more, rows_start}
use Rattle.lx_check.proofs.graph.with_rows.Goals as goal

pub loop-row-init : goal.loop-row-init
loop-row-init c = (c.as_slice-row-items.ensures, rows_start c.args.design.now c.args.net.now _ (rw c.len.ensures at c.in_ok-graph.ensures))

pub add_node-requires : goal.add_node-requires
add_node-requires c =
    rw (c.in_ok-reads.ensures, c.as_slice.ensures)
    (row_fits c.args.design.now c.args.net.now _ c.loop-row.row-index _ c.row-item.result c.row-item.result c.requires c.loop-row.invariant.0 c.loop-row-test.true c.row-item.is c.loop-row.invariant.1)

pub loop-row-preserved : goal.loop-row-preserved
loop-row-preserved c =
    (c.loop-row.invariant.0, rows_more c.args.design.now c.args.net.now _ _ _ _ c.row-item.result _ c.loop-row.invariant.0 c.loop-row-test.true c.row-item.is c.loop-row.invariant.1 (rw (c.in_ok-reads.ensures, c.as_slice.ensures) at c.in_ok-add_node.ensures.ok.1))

pub returns : goal.returns
returns c = rows_done c.args.design.now c.args.net.now _ _ _ c.loop-row.invariant.0 (omega arith) c.loop-row.invariant.1
