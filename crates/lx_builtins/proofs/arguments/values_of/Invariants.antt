use Rattle.std.proofs.Common.{◌≡◌, ◌++◌, drop, map}
use Rattle.lx_builtins.specs.Arguments.{value_of}
use Rattle.lx_builtins.proofs.arguments.values_of.Given as goal

abbrev pub invariant-loop-bound : goal.invariant-loop-bound
invariant-loop-bound l = (l.values ++ map (value_of l.args) (drop l.bound-index l.bounds)) ≡ map (value_of l.args) l.bounds
