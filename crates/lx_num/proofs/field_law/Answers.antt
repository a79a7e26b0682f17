use Rattle.lx_num.proofs.Fields.{field_of-laid, modulo-laid, field_of-above_laid}
use Rattle.lx_num.proofs.field_law.Goals as goal

pub returns-clause-laid : goal.returns-clause-laid
returns-clause-laid c = field_of-laid

pub returns-clause-below : goal.returns-clause-below
returns-clause-below c = modulo-laid

pub returns-clause-above : goal.returns-clause-above
returns-clause-above c = field_of-above_laid
