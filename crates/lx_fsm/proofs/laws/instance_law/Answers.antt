use Rattle.lx_fsm.proofs.Instance.{turns}
use Rattle.lx_fsm.proofs.laws.instance_law.Goals as goal

pub returns : goal.returns
returns c = turns
