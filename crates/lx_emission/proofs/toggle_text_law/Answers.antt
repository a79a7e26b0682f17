use Rattle.lx_emission.proofs.Instances.{toggle_is}
use Rattle.lx_emission.proofs.toggle_text_law.Goals as goal

pub returns : goal.returns
returns c = toggle_is
