use Rattle.std.proofs.Common.{◌≡◌, ◌++◌, take}
use Rattle.lx_csr.specs.Collected.{source_signals}
use Rattle.lx_csr.proofs.gathering.push_signals.Given as goal

abbrev pub invariant-loop-source : goal.invariant-loop-source
invariant-loop-source l = l.signals ≡ l.initial.signals ++ source_signals l.k (take l.source-index l.sources)
