use Rattle.lx_fsm.proofs.Puts.{put_last}
use Rattle.lx_fsm.proofs.states.put_stmt.Goals as goal

pub returns : goal.returns
returns c = put_last _ _ _ _ _ _ _ c.keeps.ensures c.keeps-2.ensures c.requires.node.stands (search c.requires.node.below) c.requires.out c.in_ok-id.ensures.ok c.in_ok-push.ensures.ok
