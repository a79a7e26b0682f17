use Rattle.lx_lower.proofs.Folding.{signal_reset}
use Rattle.lx_plain.proofs.Reading.{signal_shape_is}
use Rattle.lx_lower.proofs.known.SignalOf.signal.Goals as goal

pub returns-clause-shape : goal.returns-clause-shape
returns-clause-shape c = signal_shape_is _ _ c.at.result.now (rw (c.design.ensures.is, c.known.view_is) at c.at.ensures)

pub returns-clause-reset : goal.returns-clause-reset
returns-clause-reset c = signal_reset _ _ c.at.result.now (rw (c.design.ensures.is, c.known.view_is) at c.at.ensures)
