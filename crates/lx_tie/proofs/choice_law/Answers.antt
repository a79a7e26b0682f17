use Rattle.lx_tie.proofs.Rows.{choice_drives}
use Rattle.lx_tie.proofs.choice_law.Goals as goal

pub returns : goal.returns
returns c = choice_drives
