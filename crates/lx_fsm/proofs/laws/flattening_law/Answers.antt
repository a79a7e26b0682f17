use Rattle.lx_fsm.proofs.Flattens.{can_flatten}
use Rattle.lx_fsm.proofs.laws.flattening_law.Goals as goal

pub returns : goal.returns
returns c = can_flatten
