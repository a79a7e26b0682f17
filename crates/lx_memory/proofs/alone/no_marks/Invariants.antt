use Rattle.std.proofs.Common.{◌≡◌, false, replicate}
use Rattle.lx_memory.proofs.alone.no_marks.Given as goal

abbrev pub invariant-loop-made : goal.invariant-loop-made
invariant-loop-made l = l.marks ≡ replicate l._made false
