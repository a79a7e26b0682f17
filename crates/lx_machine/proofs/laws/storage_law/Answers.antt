use Rattle.lx_machine.proofs.Access.{storage_law}
use Rattle.lx_machine.proofs.laws.storage_law.Goals as goal

pub returns : goal.returns
returns c = storage_law
