use Rattle.lx_fsm.proofs.Grown.{term_put}
use Rattle.lx_fsm.proofs.numbers.push_state.Goals as goal

pub returns : goal.returns
returns c = term_put _ _ _ _ c.keeps.ensures c.keeps-2.ensures c.in_ok-id.ensures.ok
