use Rattle.std.proofs.Common.{ap, ◌∙◌}
use Rattle.lx_names.specs.Tables.{look_up}
use Rattle.lx_names.proofs.Seen.{look_up_seen}
use Rattle.lx_names.proofs.table.Table.get.Goals as goal

pub returns : goal.returns
returns g c = c.copied.ensures ∙ c.get.ensures.value ∙ look_up_seen c.self.inside.map.entries (λ k. k.items) c.args.name.now ∙ ap (λ es. look_up es c.args.name.now) c.self.view_is
