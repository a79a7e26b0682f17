use Rattle.std.proofs.Common.{◌≡◌, replicate}
use Rattle.lx_check.specs.Marks.{no_mark}
use Rattle.lx_check.proofs.marks.no_marks.Given as goal

abbrev pub invariant-loop-made : goal.invariant-loop-made
invariant-loop-made l = l.marks.items ≡ replicate l._made no_mark
