use Rattle.lx_emission.proofs.Instances.{slices_is}
use Rattle.lx_emission.proofs.slices_text_law.Goals as goal

pub returns : goal.returns
returns c = slices_is
