use Rattle.lx_emission.specs.Signals.{signal_always}
use Rattle.lx_blocks.specs.Lines.{PutAlways}
use Rattle.lx_sheet.proofs.Lines.{pieces}
use Rattle.lx_blocks.proofs.always.put_signals.Given as goal

abbrev pub invariant-loop-x : goal.invariant-loop-x
invariant-loop-x l = PutAlways l.initial.nodes l.nodes l.initial.blocks l.blocks (pieces (signal_always l.sheet.design l.sheet.names) l.sheet.design.signals l.x)
