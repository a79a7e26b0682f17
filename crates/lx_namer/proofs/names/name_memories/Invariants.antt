use Rattle.std.proofs.Common.{◌++◌, length}
use Rattle.lx_namer.specs.Giving.{AreGiven}
use Rattle.lx_namer.specs.Names.{memory_wishes, signal_wishes, taken_first}
use Rattle.lx_namer.proofs.names.name_memories.Given as goal

abbrev pub invariant-loop-m : goal.invariant-loop-m
invariant-loop-m l = AreGiven (taken_first l.design) (signal_wishes l.design (length l.design.signals) ++ memory_wishes l.design l.m) l.namer
