use Rattle.lx_alloc.proofs.Names.{DistinctBelow}
use Rattle.lx_alloc.proofs.numbers.are_distinct.Given as goal

abbrev pub invariant-loop-i : goal.invariant-loop-i
invariant-loop-i l = DistinctBelow l.banks l.i
