use Rattle.lx_memory.proofs.FromDesign.{can_lower_ports}
use Rattle.lx_memory.proofs.laws.designs_law.Goals as goal

pub returns : goal.returns
returns c = can_lower_ports
