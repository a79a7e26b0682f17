use Rattle.std.proofs.Common.{◌≡◌, drop}
use Rattle.lx_builtins.specs.Numbers.{greatest_of}
use Rattle.lx_builtins.proofs.numbers.greatest_of.Given as goal

abbrev pub invariant-loop-number : goal.invariant-loop-number
invariant-loop-number l = greatest_of l.greatest (drop l.number-index l.others) ≡ greatest_of l.first l.others
