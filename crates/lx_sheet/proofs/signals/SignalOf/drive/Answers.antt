use Rattle.lx_sheet.proofs.Driven.{drive_plain_at, drive_there_at}
use Rattle.lx_sheet.proofs.signals.SignalOf.drive.Goals as goal

pub returns-clause-there : goal.returns-clause-there
returns-clause-there c = rw (← c.sheet.view_is) (drive_there_at _ _ _ _ c.sheet.invariant.fit.keeps c.sheet.invariant.tables.drives c.at.ensures)

pub returns-clause-plain : goal.returns-clause-plain
returns-clause-plain c = rw (← c.sheet.view_is) (drive_plain_at _ _ _ _ c.sheet.invariant.fit.lowered c.sheet.invariant.tables.drives c.at.ensures)
