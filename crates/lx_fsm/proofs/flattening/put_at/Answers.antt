use Rattle.lx_fsm.proofs.Laying.{put_back}
use Rattle.lx_fsm.proofs.flattening.put_at.Goals as goal

pub returns : goal.returns
returns c = put_back _ _ _ _ _ _ _ _ c.replace-list.ensures.before c.replace-list.ensures.after c.in_ok-append.ensures c.replace.ensures.after
