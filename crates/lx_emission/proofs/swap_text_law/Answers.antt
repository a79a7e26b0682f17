use Rattle.lx_emission.proofs.Instances.{swap_is}
use Rattle.lx_emission.proofs.swap_text_law.Goals as goal

pub returns : goal.returns
returns c = swap_is
