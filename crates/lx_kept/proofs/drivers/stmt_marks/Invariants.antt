use Rattle.lx_kept.specs.Drivers.{AreMarks}
use Rattle.lx_kept.proofs.drivers.stmt_marks.Given as goal

abbrev pub invariant-loop-place : goal.invariant-loop-place
invariant-loop-place l = AreMarks l.design l.fn.x.0 l.place l.marks
