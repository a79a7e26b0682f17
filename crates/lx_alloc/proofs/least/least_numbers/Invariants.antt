use Rattle.std.proofs.Common.{◌-◌, length}
use Rattle.lx_alloc.specs.Numbers.{IsPart}
use Rattle.lx_alloc.proofs.least.least_numbers.Given as goal

abbrev pub invariant-loop-numbers : goal.invariant-loop-numbers
invariant-loop-numbers l = IsPart l.wished l.numbers.items

abbrev pub decreases-loop-numbers : goal.decreases-loop-numbers
decreases-loop-numbers l = length l.wished - length l.numbers.items
