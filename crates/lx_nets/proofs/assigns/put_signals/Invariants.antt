use Rattle.lx_emission.specs.Signals.{signal_assign}
use Rattle.lx_nets.specs.Lines.{PutAssigns}
use Rattle.lx_sheet.proofs.Lines.{pieces}
use Rattle.lx_nets.proofs.assigns.put_signals.Given as goal

abbrev pub invariant-loop-x : goal.invariant-loop-x
invariant-loop-x l = PutAssigns l.initial.nodes l.nodes l.initial.assigns l.assigns (pieces (signal_assign l.sheet.design l.sheet.names) l.sheet.design.signals l.x)
