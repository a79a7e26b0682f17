use Rattle.lx_outside.proofs.sources.SureSourceSource.load.Goals as goal

pub returns-clause-loads : goal.returns-clause-loads
returns-clause-loads c = rw (← c.self.view_is, ← c.as_slice.ensures) (c.load_from.ensures 0 0)
