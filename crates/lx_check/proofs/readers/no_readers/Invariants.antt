use Rattle.std.proofs.Common.{◌≡◌, None, replicate}
use Rattle.lx_check.proofs.readers.no_readers.Given as goal

abbrev pub invariant-loop-made : goal.invariant-loop-made
invariant-loop-made l = l.readers.items ≡ replicate l._made None
