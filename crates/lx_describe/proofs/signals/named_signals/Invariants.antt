use Rattle.std.proofs.Common.{◌≡◌, ◌++◌, drop}
use Rattle.lx_describe.specs.Signals.{named_signals}
use Rattle.lx_describe.proofs.signals.named_signals.Given as goal

abbrev pub invariant-loop-place : goal.invariant-loop-place
invariant-loop-place l = l.named ++ named_signals l.machine l.place (drop l.place l.signals) ≡ named_signals l.machine 0 l.machine.shaped.signals
