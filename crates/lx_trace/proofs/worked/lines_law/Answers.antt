use Rattle.lx_trace.proofs.Standing.{trace_stands}
use Rattle.lx_trace.proofs.worked.lines_law.Goals as goal

pub returns : goal.returns
returns c = trace_stands
