use Rattle.lx_sheet.proofs.Remembered.{narrow}
use Rattle.lx_sheet.proofs.memories.MemoryOf.memory.Goals as goal

pub returns-clause-narrow : goal.returns-clause-narrow
returns-clause-narrow c = narrow _ _ _ c.sheet.invariant.fit.keeps c.at.ensures
