use Rattle.std.proofs.Common.{◌≡◌, drop, max}
use Rattle.lx_shaped.specs.Sizes.{most_at}
use Rattle.lx_shaped.proofs.sizes.most_of_bits.Given as goal

abbrev pub invariant-loop-item : goal.invariant-loop-item
invariant-loop-item l = max l.most (most_at l.bits (drop l.item-index l.items)) ≡ most_at l.bits l.items
