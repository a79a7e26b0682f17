use Rattle.std.proofs.Common.{◌+◌, ◌*◌, drop}
use Rattle.lx_sim.proofs.Runs.{RunsTo}
use Rattle.lx_sim.proofs.blocks.+blocks.Given as goal

abbrev pub decreases-after_stmt : goal.decreases-after_stmt
decreases-after_stmt l = 2 * l.id.place + 1

abbrev pub decreases-after_block : goal.decreases-after_block
decreases-after_block l = 2 * l.bound

abbrev pub invariant-after_block-loop-id : goal.invariant-after_block-loop-id
invariant-after_block-loop-id l = RunsTo l.design l.x l.known l.ids (drop l.id-index l.ids) l.pattern l.now
