use Rattle.std.proofs.Common.{◌≡◌, drop}
use Rattle.lx_description.specs.Kept.{have_wires}
use Rattle.lx_parts_kept.proofs.signals.Signals.have_wires.Given as goal

abbrev pub invariant-loop-x : goal.invariant-loop-x
invariant-loop-x l = have_wires l.self (drop l.x-index l.signals) l.rest ≡ have_wires l.self l.signals l.wires
