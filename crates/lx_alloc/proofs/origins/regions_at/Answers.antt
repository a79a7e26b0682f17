use Rattle.std.proofs.Common.{arith}
use Rattle.lx_alloc.proofs.Stated.{regions_push}
use Rattle.lx_alloc.proofs.origins.regions_at.Goals as goal

pub loop-i-preserved : goal.loop-i-preserved
loop-i-preserved c =
    regions_push c.loop-i.regions _ c.args.wishes.now c.args.spots.now c.loop-i.i c.index-wishes-i.result _ _ (omega arith) c.requires
    c.index-wishes-i.is c.loop-i.invariant c.in_ok-region_of.ensures c.in_ok-push.ensures.ok
