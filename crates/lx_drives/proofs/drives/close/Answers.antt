use Rattle.std.proofs.Common.{◌<◌, length, arith}
use Rattle.lx_drives.proofs.Owners.{closed_all, closed_next, closed_none, there_in}
use Rattle.lx_drives.proofs.drives.close.Goals as goal

pub loop-x-init : goal.loop-x-init
loop-x-init c = closed_none _ _

pub close_one-requires : goal.close_one-requires
close_one-requires c =
    let within : c.loop-x.x < length c.loop-x.drives = omega (arith, c.loop-x.invariant.long) in
    record { there = rw (← c.index-drives-x.is) (there_in _ _ _ _ _ c.requires.there c.loop-x.invariant within c.index-drives-x.is) }

pub loop-x-preserved : goal.loop-x-preserved
loop-x-preserved c =
    let within : c.loop-x.x < length c.loop-x.drives = omega (arith, c.loop-x.invariant.long) in
    closed_next _ _ _ _ c.index-drives-x.result _ c.loop-x.invariant within c.index-drives-x.is (rw (← c.index-drives-x.is) at c.close_one.ensures)

pub returns : goal.returns
returns c = closed_all _ _ _ _ (omega arith) c.loop-x.invariant
