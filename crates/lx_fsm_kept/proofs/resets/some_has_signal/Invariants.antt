use Rattle.std.proofs.Common.{◌≡◌, drop}
use Rattle.std.specs.List.{list_any}
use Rattle.lx_fsm_kept.specs.Stand.{has_signal}
use Rattle.lx_fsm_kept.proofs.resets.some_has_signal.Given as goal

abbrev pub invariant-loop-fsm : goal.invariant-loop-fsm
invariant-loop-fsm l = list_any (has_signal l.x.0) (drop l.fsm-index l.fsms) ≡ list_any (has_signal l.x.0) l.fsms
