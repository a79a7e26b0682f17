use Rattle.lx_kept.specs.Depths.{AreDepths}
use Rattle.lx_kept.proofs.depths.stmt_depths.Given as goal

abbrev pub invariant-loop-place : goal.invariant-loop-place
invariant-loop-place l = AreDepths l.design l.place l.depths
