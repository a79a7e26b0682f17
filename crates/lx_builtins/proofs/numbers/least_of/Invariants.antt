use Rattle.std.proofs.Common.{◌≡◌, drop}
use Rattle.lx_builtins.specs.Numbers.{least_of}
use Rattle.lx_builtins.proofs.numbers.least_of.Given as goal

abbrev pub invariant-loop-number : goal.invariant-loop-number
invariant-loop-number l = least_of l.least (drop l.number-index l.others) ≡ least_of l.first l.others
