use Rattle.std.proofs.Common.{◌∙◌, ap}
use Rattle.std.specs.Prelude.{Some}
use Rattle.lx_drives.proofs.drives.whole_value.Goals as goal

pub is_whole-requires : goal.is_whole-requires
is_whole-requires c = record { place = rw (← c.lowered.view_is) ((c.lowered.invariant.keeps.arenas.stmts c.args.id.place _ (c.get.ensures.item ∙ ap Some c.in-Assign.is)).0) }
