use Rattle.lx_fsm_kept.specs.Depths.{AreDepths}
use Rattle.lx_fsm_kept.proofs.depths.stmt_depths.Given as goal

abbrev pub invariant-loop-place : goal.invariant-loop-place
invariant-loop-place l = AreDepths l.design l.stmts l.place l.depths
