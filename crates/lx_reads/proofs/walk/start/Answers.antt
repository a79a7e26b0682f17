use Rattle.std.proofs.Common.{arith}
use Rattle.lx_reads.proofs.Nets.{start_is}
use Rattle.lx_reads.proofs.walk.start.Goals as goal

pub returns : goal.returns
returns c = start_is _ _ c.requires c.in_ok-rows.ensures (omega (arith, c.len-exprs.ensures, c.len-room.ensures, c.if-exprs-room.false)) c.new.ensures
