use Rattle.std.proofs.Common.{◌∙◌, ap}
use Rattle.lx_objects.specs.Cases.{with_key}
use Rattle.lx_objects.proofs.Keys.{added_is}
use Rattle.lx_objects.proofs.cases.Seen.add.Goals as goal

pub returns : goal.returns
returns c = c.in_ok-insert.ensures.keys ∙ added_is c.args.key c.self.inside.set.keys ∙ ap (with_key c.args.key) c.self.view_is
