use Rattle.std.proofs.Common.{◌≡◌, drop}
use Rattle.lx_state.specs.Lists.{all_leaves, joined}
use Rattle.lx_state.proofs.machine.Machine.all_leaves.Given as goal

abbrev pub invariant-loop-value : goal.invariant-loop-value
invariant-loop-value l = joined l.leaves (all_leaves l.self (drop l.value-index l.values)) ≡ all_leaves l.self l.values
