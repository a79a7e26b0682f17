use Rattle.std.proofs.Common.{◌≡◌, take}
use Rattle.lx_memory.proofs.copies.copied_signals.Given as goal

abbrev pub invariant-loop-signal : goal.invariant-loop-signal
invariant-loop-signal l = l.list ≡ take l.signal-index l.signals
