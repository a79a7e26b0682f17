use Rattle.lx_names.proofs.Seen.{distinct_seen}
use Rattle.lx_names.proofs.table.Table.len.Goals as goal

pub returns-clause-distinct : goal.returns-clause-distinct
returns-clause-distinct g c = rw (← c.self.view_is) (distinct_seen c.self.inside.map.entries (λ k. k.items) c.len.ensures.unique)
