use Rattle.std.proofs.Common.{◌∙◌, ap}
use Rattle.lx_names.specs.Tables.{names}
use Rattle.lx_value.specs.Seen.{with_new}
use Rattle.lx_value.proofs.Repeats.{set_names}
use Rattle.lx_value.proofs.seen.Seen.add.Goals as goal

pub returns-clause-ok : goal.returns-clause-ok
returns-clause-ok c = ap names c.in_ok-set.ensures.ok ∙ set_names c.self.inside.table c.args.name.now _ ∙ ap (with_new c.args.name.now) c.self.view_is
