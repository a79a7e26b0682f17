use Rattle.lx_machine.proofs.Accessors.{write_law}
use Rattle.lx_machine.proofs.laws.write_law.Goals as goal

pub returns : goal.returns
returns c = write_law
