use Rattle.std.proofs.Common.{◌≡◌, ◌-◌}
use Rattle.lx_builtins.specs.Numbers.{exponent_below}
use Rattle.lx_builtins.proofs.numbers.exponent_below.Given as goal

abbrev pub invariant-loop-passed : goal.invariant-loop-passed
invariant-loop-passed l = exponent_below l.number (l.count - l.passed) ≡ exponent_below l.number l.count
