use Rattle.lx_emission.proofs.Instances.{branched_can}
use Rattle.lx_emission.proofs.branched_law.Goals as goal

pub returns : goal.returns
returns c = branched_can
