use Rattle.std.proofs.Common.{length, take}
use Rattle.lx_fsm.specs.Laid.{ArePut}
use Rattle.lx_fsm.proofs.flattening.put_fsms.Given as goal

abbrev pub invariant-loop-fsm : goal.invariant-loop-fsm
invariant-loop-fsm l = ArePut l.initial.growing l.growing l.stmts (take l.fsm-index l.fsms) (length l.initial.comb) (length l.initial.sync) l.comb l.sync
