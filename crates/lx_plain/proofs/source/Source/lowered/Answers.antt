use Rattle.lx_plain.proofs.Reading.{lowered_has, shape_read}
use Rattle.lx_plain.proofs.source.Source.lowered.Goals as goal

pub returns-clause-shape : goal.returns-clause-shape
returns-clause-shape c = lowered_has _ _ _ c.self.invariant (rw (← c.self.view_is) at c.requires.lowered) (rw (← c.self.view_is) at c.requires.place)

pub returns-clause-same : goal.returns-clause-same
returns-clause-same c = rw (← c.self.view_is) (shape_read _ _ c.self.invariant (rw (← c.self.view_is) at c.requires.place))
