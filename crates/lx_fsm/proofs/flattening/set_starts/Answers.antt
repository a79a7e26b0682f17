use Rattle.std.proofs.Common.{arith}
use Rattle.std.specs.Int.{w128}
use Rattle.std.proofs.lemmas.Int.{to_z_pos}
use Rattle.lx_fsm.proofs.Starts.{start_next}
use Rattle.lx_fsm.proofs.flattening.set_starts.Goals as goal

pub loop-fsm-preserved : goal.loop-fsm-preserved
loop-fsm-preserved c =
    start_next c.args.fsms.now c.loop-fsm.fsm-index c.fsm-item.result (omega arith) c.fsm-item.is c.loop-fsm.invariant
    (rw (to_z_pos w128 c.start_of-start.result (omega arith), c.start_of-start.ensures) at c.set_reset.ensures)
