use Rattle.std.proofs.Common.{◌∙◌, ap}
use Rattle.std.specs.Prelude.{Some}
use Rattle.lx_drives.proofs.Inside.{plain_whole, plain_part, no_cat, no_pick}
use Rattle.lx_drives.proofs.drives.signal_of_target.Goals as goal

pub unreachable-requires : goal.unreachable-requires
unreachable-requires c = no_cat c.lowered.inside.design.now c.args.id.place c.in-Cat.field-0 c.lowered.invariant.keeps (c.get.ensures.item ∙ ap Some c.in-Cat.is) (rw (← c.lowered.view_is) at c.requires.plain)

pub unreachable-requires-in-Pick : goal.unreachable-requires-in-Pick
unreachable-requires-in-Pick c = no_pick c.lowered.inside.design.now c.args.id.place c.in-Pick.items c.in-Pick.index c.lowered.invariant.keeps (c.get.ensures.item ∙ ap Some c.in-Pick.is) (rw (← c.lowered.view_is) at c.requires.plain)

pub returns-in-Whole-clause-alone : goal.returns-in-Whole-clause-alone
returns-in-Whole-clause-alone c = rw (← c.lowered.view_is) (plain_whole c.lowered.inside.design.now c.args.id.place c.in-Whole.signal c.lowered.invariant.keeps (c.get.ensures.item ∙ ap Some c.in-Whole.is))

pub returns-in-Part-clause-alone : goal.returns-in-Part-clause-alone
returns-in-Part-clause-alone c = rw (← c.lowered.view_is) (plain_part c.lowered.inside.design.now c.args.id.place c.in-Part.signal c.in-Part.low c.in-Part.len c.lowered.invariant.keeps (c.get.ensures.item ∙ ap Some c.in-Part.is))

pub returns-in-Whole-clause-there : goal.returns-in-Whole-clause-there
returns-in-Whole-clause-there c = rw (← c.lowered.view_is) (c.lowered.invariant.keeps.arenas.targets c.args.id.place _ (c.get.ensures.item ∙ ap Some c.in-Whole.is))

pub returns-in-Part-clause-there : goal.returns-in-Part-clause-there
returns-in-Part-clause-there c = rw (← c.lowered.view_is) ((c.lowered.invariant.keeps.arenas.targets c.args.id.place _ (c.get.ensures.item ∙ ap Some c.in-Part.is)).0)
