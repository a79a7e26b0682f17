use Rattle.std.proofs.Common.{[]}
use Rattle.lx_lower.specs.Lists.{AreBySignal}
use Rattle.lx_lower.proofs.lists.no_lists.Given as goal

abbrev pub invariant-loop-signal : goal.invariant-loop-signal
invariant-loop-signal l = AreBySignal l._signal [] l.lists.items
