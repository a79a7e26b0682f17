use Rattle.lx_soc.proofs.Rows.{rows}
use Rattle.lx_soc.proofs.worked.systems_are_worked.Goals as goal

pub returns : goal.returns
returns c = rows
