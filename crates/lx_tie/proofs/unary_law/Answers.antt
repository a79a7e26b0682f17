use Rattle.lx_tie.proofs.Rows.{unary_drives}
use Rattle.lx_tie.proofs.unary_law.Goals as goal

pub returns : goal.returns
returns c = unary_drives
