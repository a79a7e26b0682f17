use Rattle.lx_fsm.proofs.Standing.{stand_law}
use Rattle.lx_fsm.proofs.laws.stand_law.Goals as goal

pub returns : goal.returns
returns c = stand_law
