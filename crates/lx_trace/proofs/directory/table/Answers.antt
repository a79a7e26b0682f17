use Rattle.std.proofs.Common.{arith}
use Rattle.lx_trace.proofs.Tables.{table_all, table_more}
use Rattle.lx_trace.proofs.directory.table.Goals as goal

pub loop-x-preserved : goal.loop-x-preserved
loop-x-preserved c =
    table_more c.args.design.now c.args.names.now c.loop-x.x c.at.result.now c.as_bytes.result.now c.at-in-loop-x.result.now c.loop-x.table c.add_signal.new.table
    c.as_bytes.ensures c.at.ensures c.at-in-loop-x.ensures c.loop-x.invariant c.in_ok-add_signal.ensures

pub returns : goal.returns
returns c = table_all c.args.design.now c.args.names.now c.loop-x.x c.loop-x.table c.requires (omega (arith, c.loop-x.auto.x-end, c.len-x-end.ensures)) c.loop-x.invariant
