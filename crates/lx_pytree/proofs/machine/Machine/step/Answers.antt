use Rattle.std.proofs.Common.{refl}
use Rattle.lx_pytree.proofs.Moves.{popped_some, popped_none, emptied}
use Rattle.lx_pytree.proofs.machine.Machine.step.Goals as goal

pub returns-in_default : goal.returns-in_default
returns-in_default c = popped_none _ c.args.self.now c.pop.new.self _ _ (emptied _ _ _ c.in_default.ensures.cases.0 c.in_default.ensures.rest c.in_default.ensures.items) c.close.ensures.end

pub returns-in-Close : goal.returns-in-Close
returns-in-Close c = popped_some _ c.args.self.now c.pop.new.self _ _ _ _ _ refl c.in-Close.is c.in-Some.ensures.items c.close-in-Close.ensures.top

pub returns-in-Do : goal.returns-in-Do
returns-in-Do c = popped_some _ c.args.self.now c.pop.new.self _ _ _ _ _ refl c.in-Do.is c.in-Some.ensures.items c.go_on.ensures
