use Rattle.std.proofs.Common.{◌∙◌, ap, is_some}
use Rattle.lx_value.proofs.Repeats.{among, has_is}
use Rattle.lx_value.proofs.seen.Seen.has.Goals as goal

pub returns : goal.returns
returns c = c.is_some.ensures ∙ ap is_some c.get.ensures ∙ has_is c.self.inside.table c.args.name.now ∙ ap (among c.args.name.now) c.self.view_is
