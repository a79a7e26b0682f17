use Rattle.lx_namer.specs.Giving.{AreGiven}
use Rattle.lx_namer.specs.Names.{signal_wishes, taken_first}
use Rattle.lx_namer.proofs.names.name_signals.Given as goal

abbrev pub invariant-loop-x : goal.invariant-loop-x
invariant-loop-x l = AreGiven (taken_first l.design) (signal_wishes l.design l.x) l.namer
