use Rattle.std.proofs.Common.{ℕ, ◌<◌}
use Rattle.lx_alloc.specs.Numbers.{IsUsed}
use Rattle.lx_alloc.proofs.least.lowest_free.Given as goal

abbrev pub invariant-loop-number : goal.invariant-loop-number
invariant-loop-number l = (p : ℕ) → p < l.number → IsUsed l.wished l.numbers p
