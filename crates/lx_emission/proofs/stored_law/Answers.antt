use Rattle.lx_emission.proofs.Instances.{stored_can}
use Rattle.lx_emission.proofs.stored_law.Goals as goal

pub returns : goal.returns
returns c = stored_can
