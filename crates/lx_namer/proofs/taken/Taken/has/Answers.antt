use Rattle.std.proofs.Common.{◌∙◌}
use Rattle.lx_namer.proofs.Table.{has_is}
use Rattle.lx_namer.proofs.taken.Taken.has.Goals as goal

pub returns : goal.returns
returns c = c.is_some.ensures ∙ has_is _ _ _ _ c.self.view_is c.get.ensures
