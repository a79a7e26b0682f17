use Rattle.lx_memory.proofs.Standing.{starts}
use Rattle.lx_memory.proofs.growing.Growing.of.Goals as goal

pub invariant_of-result : goal.invariant_of-result
invariant_of-result c = starts c.args.design c.requires
