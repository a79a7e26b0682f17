use Rattle.lx_lowering.proofs.Instance.{can_be_lowered, has_order}
use Rattle.lx_lowering.proofs.instance_law.Goals as goal

pub returns : goal.returns
returns c = record { lowering = can_be_lowered; order = has_order }
