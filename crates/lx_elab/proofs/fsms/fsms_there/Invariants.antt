use Rattle.std.proofs.Common.{◌≡◌, drop}
use Rattle.std.specs.List.{list_all}
use Rattle.lx_elab.specs.Fsms.{has_bodies}
use Rattle.lx_elab.proofs.fsms.fsms_there.Given as goal

abbrev pub invariant-loop-fsm : goal.invariant-loop-fsm
invariant-loop-fsm l = list_all (has_bodies l.count) (drop l.fsm-index l.fsms) ≡ list_all (has_bodies l.count) l.fsms
