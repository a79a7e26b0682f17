use Rattle.lx_machine.proofs.Accessors.{read_law}
use Rattle.lx_machine.proofs.laws.read_law.Goals as goal

pub returns : goal.returns
returns c = read_law
