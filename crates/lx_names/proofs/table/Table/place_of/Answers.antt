use Rattle.std.proofs.Common.{◌∙◌}
use Rattle.lx_names.proofs.Seen.{place_seen}
use Rattle.lx_names.proofs.table.Table.place_of.Goals as goal

pub returns : goal.returns
returns g c = rw (← c.self.view_is) (c.get_index_of.ensures.index ∙ place_seen c.self.inside.map.entries (λ k. k.items) c.args.name.now)
