use Rattle.std.proofs.Common.{drop}
use Rattle.lx_reads.specs.Net.{Goes}
use Rattle.lx_reads.specs.Walks.{driven_todo}
use Rattle.lx_reads.proofs.walk.put_driven.Given as goal

abbrev pub invariant-loop-signal : goal.invariant-loop-signal
invariant-loop-signal l =
    Goes l.design l.initial.net l.net (driven_todo l.design l.initial.net l.driver l.line l.node l.signals) (driven_todo l.design l.initial.net l.driver l.line l.node (drop l.signal-index l.signals))
