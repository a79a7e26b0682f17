use Rattle.lx_emission.proofs.Instances.{branched_is}
use Rattle.lx_emission.proofs.branched_text_law.Goals as goal

pub returns : goal.returns
returns c = branched_is
