use Rattle.std.proofs.Common.{◌≡◌, ◌≤◌, ◌+◌, drop}
use Rattle.lx_trace.specs.Reading.{left}
use Rattle.lx_trace.specs.Traces.{most_steps, trace_of}
use Rattle.lx_trace.proofs.reading.read_trace.Given as goal

abbrev pub invariant-loop-k : goal.invariant-loop-k
invariant-loop-k l = record {
  most : l.reading.steps ≤ most_steps;
  same : left (record { design = l.design; names = l.names }) (l.k + 1) l.reading (drop l.k l.lines) ≡ trace_of l.design l.names l.text;
}
