use Rattle.lx_emission.proofs.Law.{emits}
use Rattle.lx_emission.proofs.emission_law.Goals as goal

pub returns : goal.returns
returns c = emits
