use Rattle.std.proofs.Common.{refl, arith}
use Rattle.lx_reads.proofs.Nets.{row_added}
use Rattle.lx_reads.proofs.walk.put_row.Goals as goal

pub returns : goal.returns
returns c =
    row_added _ _ _ _ _ c.requires.net c.requires.below c.in_ok-push.ensures.ok refl (omega (arith, c.len-count.ensures, c.len-place.ensures)) (omega (arith, c.len-count.ensures, c.len-place.ensures, c.if-place-room.false))
