use Rattle.std.proofs.Common.{◌≡◌, drop}
use Rattle.lx_trace.specs.Traces.{event_of}
use Rattle.lx_trace.proofs.reading.event.Given as goal

abbrev pub invariant-loop-word : goal.invariant-loop-word
invariant-loop-word l = event_of l.domains 0 l.words ≡ event_of l.domains l.rises (drop l.word-index l.words)
