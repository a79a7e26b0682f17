use Rattle.lx_fsm.proofs.Reopened.{is_draft}
use Rattle.lx_fsm.proofs.growing.Growing.of.Goals as goal

pub invariant_of-result : goal.invariant_of-result
invariant_of-result c = is_draft c.args.design c.requires
