use Rattle.std.proofs.Common.{◌≡◌, ◌+◌}
use Rattle.lx_describe.specs.Apart.{bits_from, state_bits}
use Rattle.lx_describe.proofs.apart.state_bits.Given as goal

abbrev pub invariant-loop-more : goal.invariant-loop-more
invariant-loop-more l = (bits_from l.states l.more l.bits ≡ state_bits l.states) × (l.bits + l.more ≡ 9)

abbrev pub decreases-loop-more : goal.decreases-loop-more
decreases-loop-more l = l.more
