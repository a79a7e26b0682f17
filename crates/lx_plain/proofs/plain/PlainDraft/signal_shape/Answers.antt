use Rattle.lx_plain.proofs.Reading.{signal_shape_is}
use Rattle.lx_plain.proofs.plain.PlainDraft.signal_shape.Goals as goal

pub returns-clause-is : goal.returns-clause-is
returns-clause-is c = signal_shape_is _ _ c.at.result.now (rw (c.design.ensures.is, c.self.view_is) at c.at.ensures)
