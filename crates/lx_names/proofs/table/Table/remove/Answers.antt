use Rattle.std.proofs.Common.{◌∙◌}
use Rattle.lx_names.proofs.Seen.{look_up_seen, without_seen}
use Rattle.lx_names.proofs.table.Table.remove.Goals as goal

pub returns-clause-value : goal.returns-clause-value
returns-clause-value g c = rw (← c.self.view_is) (c.shift_remove.ensures.value ∙ look_up_seen c.self.inside.map.entries (λ k. k.items) c.args.name.now)

pub returns-clause-after : goal.returns-clause-after
returns-clause-after g c = rw (← c.self.view_is, c.shift_remove.ensures.entries) (without_seen c.self.inside.map.entries (λ k. k.items) c.args.name.now)
