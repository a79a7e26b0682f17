use Rattle.lx_machine.proofs.Maps.{map_law}
use Rattle.lx_machine.proofs.laws.map_law.Goals as goal

pub returns : goal.returns
returns c = map_law
