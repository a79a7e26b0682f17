use Rattle.std.proofs.Common.{length}
use Rattle.lx_shaped.proofs.Targets.{part_there}
use Rattle.lx_shaped.proofs.sizes.sum_of_bits.Goals as goal

pub bits_of-requires : goal.bits_of-requires
bits_of-requires c = part_there (length c.args.bits.now) c.args.parts.now c.loop-part.part-index _ (search c.requires) c.loop-part-test.true
