use Rattle.lx_emission.proofs.Instances.{mixed_can}
use Rattle.lx_emission.proofs.mixed_law.Goals as goal

pub returns : goal.returns
returns c = mixed_can
