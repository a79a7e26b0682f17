use Rattle.lx_emission.proofs.Instances.{slices_can}
use Rattle.lx_emission.proofs.slices_law.Goals as goal

pub returns : goal.returns
returns c = slices_can
