use Rattle.lx_memory.proofs.Rows.{worked}
use Rattle.lx_memory.proofs.laws.ports_are_worked.Goals as goal

pub returns : goal.returns
returns c = worked
