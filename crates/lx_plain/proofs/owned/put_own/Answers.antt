use Rattle.lx_plain.proofs.Puts.{put_one}
use Rattle.lx_plain.proofs.owned.put_own.Goals as goal

pub returns : goal.returns
returns c = rw c.in_ok-push.ensures.ok (put_one _ _ _ _ _ _ c.requires.out c.requires.signal c.in_ok-stmt.ensures)
