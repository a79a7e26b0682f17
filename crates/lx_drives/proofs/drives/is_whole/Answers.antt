use Rattle.std.proofs.Common.{◌∙◌, ap}
use Rattle.std.specs.Prelude.{Some}
use Rattle.lx_sheet.proofs.Shaped.{signal_shape_is}
use Rattle.lx_drives.proofs.Owners.{covers_is}
use Rattle.lx_drives.proofs.drives.is_whole.Goals as goal

pub at-requires : goal.at-requires
at-requires c = (c.lowered.invariant.keeps.arenas.targets c.args.id.place _ (c.get.ensures.item ∙ ap Some c.in-Part.is)).0

pub returns-then-low-eq0 : goal.returns-then-low-eq0
returns-then-low-eq0 c =
    rw (← c.lowered.view_is) (rw (c.get.ensures.item, c.in-Part.is, ← signal_shape_is c.lowered.inside.design.now c.in-Part.signal.0 c.at.result.now c.at.ensures)
    (covers_is c.at.result.now.shape.bits c.in-Part.low c.in-Part.len c.if-low-eq0.true))
