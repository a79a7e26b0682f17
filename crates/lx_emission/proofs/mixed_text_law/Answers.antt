use Rattle.lx_emission.proofs.Instances.{mixed_is}
use Rattle.lx_emission.proofs.mixed_text_law.Goals as goal

pub returns : goal.returns
returns c = mixed_is
