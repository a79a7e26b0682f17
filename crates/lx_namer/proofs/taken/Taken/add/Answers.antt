use Rattle.std.proofs.Common.{◌∙◌, sym}
use Rattle.lx_namer.proofs.Free.{taken_already}
use Rattle.lx_namer.proofs.Table.{nexts_after, taken_after}
use Rattle.lx_namer.proofs.taken.Taken.add.Goals as goal

pub returns-then-has : goal.returns-then-has
returns-then-has c = taken_already _ _ (sym c.has.ensures ∙ c.if-has.true)

pub invariant_of-self : goal.invariant_of-self
invariant_of-self c = nexts_after _ _ _ _ c.self.invariant c.set.ensures.ok c.set.ensures.err

pub returns : goal.returns
returns c = taken_after _ _ _ _ _ _ c.self.view_is c.set.ensures.ok
