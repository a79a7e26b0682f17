use Rattle.lx_trace.proofs.Tables.{IsTableTo}
use Rattle.lx_trace.proofs.directory.table.Given as goal

abbrev pub invariant-loop-x : goal.invariant-loop-x
invariant-loop-x l = IsTableTo l.design l.names l.x l.table
