use Rattle.std.proofs.Common.{◌∙◌, sym}
use Rattle.lx_namer.proofs.Table.{next_is}
use Rattle.lx_namer.proofs.taken.Taken.next.Goals as goal

pub returns-in-Some : goal.returns-in-Some
returns-in-Some c = next_is _ _ _ _ c.self.invariant c.self.view_is (sym c.get.ensures ∙ c.in-Some.is)
