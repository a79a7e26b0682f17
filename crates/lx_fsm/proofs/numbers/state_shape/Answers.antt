use Rattle.lx_fsm.proofs.Grown.{signal_shape_is}
use Rattle.lx_fsm.proofs.numbers.state_shape.Goals as goal

pub returns : goal.returns
returns c = signal_shape_is _ _ _ (rw c.design.ensures.is at c.at.ensures)
