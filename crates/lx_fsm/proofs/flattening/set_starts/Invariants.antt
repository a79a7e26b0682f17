use Rattle.std.proofs.Common.{drop}
use Rattle.lx_fsm.proofs.Starts.{Starting}
use Rattle.lx_fsm.proofs.flattening.set_starts.Given as goal

abbrev pub invariant-loop-fsm : goal.invariant-loop-fsm
invariant-loop-fsm l = Starting l.initial.growing l.growing l.fsms (drop l.fsm-index l.fsms)
