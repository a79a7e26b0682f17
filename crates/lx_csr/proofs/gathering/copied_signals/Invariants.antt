use Rattle.std.proofs.Common.{◌≡◌, take}
use Rattle.lx_csr.proofs.gathering.copied_signals.Given as goal

abbrev pub invariant-loop-signal : goal.invariant-loop-signal
invariant-loop-signal l = l.copied ≡ take l.signal-index l.signals
