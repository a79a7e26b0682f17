use Rattle.lx_kept.specs.Drivers.{AreTargetMarks}
use Rattle.lx_kept.proofs.drivers.target_marks.Given as goal

abbrev pub invariant-loop-place : goal.invariant-loop-place
invariant-loop-place l = AreTargetMarks l.design l.x.0 l.place l.marks
