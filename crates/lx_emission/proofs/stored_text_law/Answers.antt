use Rattle.lx_emission.proofs.Instances.{stored_is}
use Rattle.lx_emission.proofs.stored_text_law.Goals as goal

pub returns : goal.returns
returns c = stored_is
