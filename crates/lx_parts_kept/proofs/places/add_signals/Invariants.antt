use Rattle.std.proofs.Common.{◌≡◌, ◌++◌, drop, map}
use Rattle.lx_fhdl.specs.Designs.{signal_number}
use Rattle.lx_parts_kept.proofs.places.add_signals.Given as goal

abbrev pub invariant-loop-x : goal.invariant-loop-x
invariant-loop-x l = l.all ++ map signal_number (drop l.x-index l.signals) ≡ l.initial.all ++ map signal_number l.signals
