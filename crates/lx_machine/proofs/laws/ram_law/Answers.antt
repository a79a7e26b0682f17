use Rattle.lx_machine.proofs.Access.{ram_law}
use Rattle.lx_machine.proofs.laws.ram_law.Goals as goal

pub returns : goal.returns
returns c = ram_law
