use Rattle.lx_names.proofs.Seen.{with_seen}
use Rattle.lx_names.proofs.table.Table.set.Goals as goal

pub returns-clause-ok : goal.returns-clause-ok
returns-clause-ok g c = rw (← c.self.view_is, c.in_ok-insert.ensures.entries, ← c.in_ok-key.ensures.items) (with_seen c.self.inside.map.entries (λ k. k.items) c.in_ok-key.key c.args.value)
