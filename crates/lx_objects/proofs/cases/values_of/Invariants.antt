use Rattle.std.proofs.Common.{◌≡◌, ◌++◌, drop, map}
use Rattle.lx_objects.specs.Cases.{pair_value}
use Rattle.lx_objects.proofs.cases.values_of.Given as goal

abbrev pub invariant-loop-pair : goal.invariant-loop-pair
invariant-loop-pair l = l.values ++ map pair_value (drop l.pair-index l.pairs) ≡ map pair_value l.pairs
