use Rattle.lx_reads.proofs.Wholes.{comb_is}
use Rattle.lx_reads.proofs.whole.comb_net.Goals as goal

pub returns : goal.returns
returns c = comb_is _ _ _ c.in_ok-net.ensures (rw c.as_slice.ensures at c.in_ok-walk.ensures)
