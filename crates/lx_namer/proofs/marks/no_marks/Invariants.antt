use Rattle.std.proofs.Common.{◌≡◌, false, replicate}
use Rattle.lx_namer.proofs.marks.no_marks.Given as goal

abbrev pub invariant-loop-made : goal.invariant-loop-made
invariant-loop-made l = l.marks.items ≡ replicate l._made false
