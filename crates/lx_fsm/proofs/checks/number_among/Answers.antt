use Rattle.lx_fsm.proofs.Naming.{or_zero_below}
use Rattle.lx_fsm.proofs.checks.number_among.Goals as goal

pub returns-clause-below : goal.returns-clause-below
returns-clause-below c = λ l. rw c.unwrap_or.ensures (or_zero_below c.number_of.result _ c.number_of.ensures.below l)
