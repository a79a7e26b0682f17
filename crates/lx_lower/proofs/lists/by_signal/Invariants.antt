use Rattle.std.proofs.Common.{take}
use Rattle.lx_lower.specs.Lists.{AreBySignal}
use Rattle.lx_lower.proofs.lists.by_signal.Given as goal

abbrev pub invariant-loop-own : goal.invariant-loop-own
invariant-loop-own l = AreBySignal l.of.signals (take l.own-index l.of.owns.now) l.lists.items
