use Rattle.lx_fsm.proofs.Ongoing.{ongoing_is}
use Rattle.lx_fsm.proofs.laws.ongoing_law.Goals as goal

pub returns : goal.returns
returns c = ongoing_is
