use Rattle.lx_memory.proofs.Law.{lowers}
use Rattle.lx_memory.proofs.laws.ports_law.Goals as goal

pub returns : goal.returns
returns c = lowers
