use Rattle.std.proofs.Common.{◌≡◌, drop, max}
use Rattle.lx_state.specs.Lists.{deepest}
use Rattle.lx_state.proofs.machine.Machine.deepest.Given as goal

abbrev pub invariant-loop-value : goal.invariant-loop-value
invariant-loop-value l = max l.depth (deepest l.self (drop l.value-index l.values)) ≡ deepest l.self l.values
