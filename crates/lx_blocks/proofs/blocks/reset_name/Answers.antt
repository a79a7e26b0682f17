use Rattle.lx_sheet.specs.Plans.{plan}
use Rattle.lx_blocks.proofs.Resets.{no_reset, some_reset, without_reset}
use Rattle.lx_sheet.proofs.Starts.{reset_there}
use Rattle.lx_blocks.proofs.blocks.reset_name.Goals as goal

pub returns-then-at : goal.returns-then-at
returns-then-at c = rw (← c.sheet.view_is) (no_reset c.sheet.inside.design.now _ _ _ _ c.at.ensures c.if-at.true)

pub new-requires : goal.new-requires
new-requires c = rw (← c.sheet.view_is) (rw c.in-Some.is at (reset_there _ _ _ c.sheet.invariant.fit.keeps c.at-2.ensures))

pub returns-in_ok-name-in-Some : goal.returns-in_ok-name-in-Some
returns-in_ok-name-in-Some c =
    rw (← c.sheet.view_is)
    (some_reset (plan c.sheet.inside.design.now c.sheet.inside.names.now) _ _ _ _ _ _ c.at.ensures c.if-at.false c.at-2.ensures c.in-Some.is (rw (← c.sheet.view_is) at (rw (c.new.ensures.sheet, c.new.ensures.id) at c.in_ok-name-in-Some.ensures)))

pub returns-in-None : goal.returns-in-None
returns-in-None c = rw (← c.sheet.view_is) (without_reset (plan c.sheet.inside.design.now c.sheet.inside.names.now) _ _ _ c.at-2.ensures c.in-None.is)
