use Rattle.lx_machine.proofs.Access.{raw_law}
use Rattle.lx_machine.proofs.laws.raw_law.Goals as goal

pub returns : goal.returns
returns c = raw_law
