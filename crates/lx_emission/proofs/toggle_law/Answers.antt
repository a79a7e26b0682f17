use Rattle.lx_emission.proofs.Instances.{toggle_can}
use Rattle.lx_emission.proofs.toggle_law.Goals as goal

pub returns : goal.returns
returns c = toggle_can
