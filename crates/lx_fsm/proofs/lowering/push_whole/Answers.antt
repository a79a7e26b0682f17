use Rattle.lx_fsm.proofs.Grown.{target_put}
use Rattle.lx_fsm.proofs.lowering.push_whole.Goals as goal

pub returns : goal.returns
returns c = target_put _ _ _ _ c.keeps.ensures c.keeps-2.ensures c.in_ok-id.ensures.ok
