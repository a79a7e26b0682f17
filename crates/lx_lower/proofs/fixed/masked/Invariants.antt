use Rattle.lx_lower.specs.Fixed.{IsMask}
use Rattle.lx_lower.proofs.fixed.masked.Given as goal

abbrev pub invariant-loop-place : goal.invariant-loop-place
invariant-loop-place l = IsMask l.exprs l.free l.shapes l.place l.mask
