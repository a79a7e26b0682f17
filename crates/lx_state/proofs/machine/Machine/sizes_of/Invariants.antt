use Rattle.std.proofs.Common.{◌≡◌, ◌≤◌, ◌+◌, drop, min}
use Rattle.lx_state.specs.Lists.{total_size}
use Rattle.lx_state.proofs.machine.Machine.sizes_of.Given as goal

abbrev pub invariant-loop-value : goal.invariant-loop-value
invariant-loop-value l = (min 262145 (l.size + total_size l.self (drop l.value-index l.values)) ≡ min 262145 (total_size l.self l.values)) × (l.size ≤ 262145)
