use Rattle.lx_emission.proofs.Instances.{swap_can}
use Rattle.lx_emission.proofs.swap_law.Goals as goal

pub returns : goal.returns
returns c = swap_can
