use Rattle.lx_lower.specs.Fixed.{AreFree}
use Rattle.lx_lower.proofs.fixed.free_exprs.Given as goal

abbrev pub invariant-loop-place : goal.invariant-loop-place
invariant-loop-place l = AreFree l.exprs l.place l.free
