use Rattle.std.proofs.Common.{◌≡◌, ◌+◌}
use Rattle.lx_objects.specs.Memories.{address_bits, address_bits_from}
use Rattle.lx_objects.proofs.memories.address_bits.Given as goal

abbrev pub invariant-loop-more : goal.invariant-loop-more
invariant-loop-more l = (address_bits_from l.words l.more l.bits ≡ address_bits l.words) × (l.bits + l.more ≡ 17)

abbrev pub decreases-loop-more : goal.decreases-loop-more
decreases-loop-more l = l.more
