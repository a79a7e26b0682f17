use Rattle.std.proofs.Common.{◌≡◌, ◌++◌, drop, flat_map}
use Rattle.lx_description.specs.Wires.{fsm_signals}
use Rattle.lx_parts_kept.proofs.places.add_fsms.Given as goal

abbrev pub invariant-loop-fsm : goal.invariant-loop-fsm
invariant-loop-fsm l = l.all ++ flat_map fsm_signals (drop l.fsm-index l.fsms) ≡ l.initial.all ++ flat_map fsm_signals l.fsms
