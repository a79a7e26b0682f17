use Rattle.lx_fsm.proofs.Law.{does}
use Rattle.lx_fsm.proofs.laws.state_law.Goals as goal

pub returns : goal.returns
returns c = does
