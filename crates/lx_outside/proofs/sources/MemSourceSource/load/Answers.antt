use Rattle.lx_outside.proofs.sources.MemSourceSource.load.Goals as goal

pub returns-clause-loads : goal.returns-clause-loads
returns-clause-loads c = rw (← c.self.view_is, ← c.as_slice-2.ensures) (c.load_from.ensures c.self.inside.faults c.self.inside.faults)
