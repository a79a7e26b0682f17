use Rattle.lx_blocks.proofs.Resets.{clocked_put, no_end, reset_end, reset_put}
use Rattle.lx_blocks.proofs.blocks.put_clocked.Goals as goal

pub returns-in_default : goal.returns-in_default
returns-in_default c = clocked_put _ _ _ _ _ _ _ c.new-empty.ensures c.in_ok-list.ensures (no_end c.args.x.sheet.now c.args.x.id.0 _ _ c.in_ok-reset.ensures c.in_default.not-Some)

pub returns : goal.returns
returns c = rw c.in_ok-push.ensures.ok (reset_put _ _ _ _ _ _ _ _ _ _ c.new-empty.ensures c.in_ok-list.ensures c.in_ok-last.ensures (reset_end c.args.x.sheet.now c.args.x.id.0 _ _ _ c.in_ok-reset.ensures c.in-Some.is))
