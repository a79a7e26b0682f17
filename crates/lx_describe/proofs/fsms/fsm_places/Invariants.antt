use Rattle.std.proofs.Common.{◌≡◌, ◌++◌, drop}
use Rattle.lx_describe.specs.Fsms.{fsm_places}
use Rattle.lx_describe.proofs.Placed.{placed}
use Rattle.lx_describe.proofs.fsms.fsm_places.Given as goal

abbrev pub invariant-loop-fsm : goal.invariant-loop-fsm
invariant-loop-fsm l = l.list ++ placed l.machine l.top (drop l.fsm-index l.machine.fsms) ≡ fsm_places l.machine l.top
