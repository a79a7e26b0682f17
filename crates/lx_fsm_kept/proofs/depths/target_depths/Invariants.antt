use Rattle.lx_fsm_kept.specs.Depths.{AreTargetDepths}
use Rattle.lx_fsm_kept.proofs.depths.target_depths.Given as goal

abbrev pub invariant-loop-place : goal.invariant-loop-place
invariant-loop-place l = AreTargetDepths l.design l.place l.depths
