use Rattle.lx_fhdl.proofs.Drafts.{ends_own}
use Rattle.lx_fsm.proofs.growing.Growing.complete.Goals as goal

pub returns-clause-keeps : goal.returns-clause-keeps
returns-clause-keeps c = rw (← c.self.view_is) (ends_own c.self.inside.design c.args.comb c.args.sync c.self.inside.design.domains c.self.inside.design.ios c.self.invariant)
