use Rattle.lx_machine.proofs.Accessors.{atomic_law}
use Rattle.lx_machine.proofs.laws.atomic_law.Goals as goal

pub returns : goal.returns
returns c = atomic_law
