use Rattle.lx_memory.proofs.SignalShapes.{signal_shape_is}
use Rattle.lx_memory.proofs.words.shape_of.Goals as goal

pub returns : goal.returns
returns c = signal_shape_is _ _ _ (rw c.design.ensures.is at c.at.ensures)
