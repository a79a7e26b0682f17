use Rattle.lx_tie.proofs.Rows.{binary_drives}
use Rattle.lx_tie.proofs.binary_law.Goals as goal

pub returns : goal.returns
returns c = binary_drives
