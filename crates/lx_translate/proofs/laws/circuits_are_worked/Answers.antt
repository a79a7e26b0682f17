use Rattle.lx_translate.proofs.Rows.{worked}
use Rattle.lx_translate.proofs.laws.circuits_are_worked.Goals as goal

pub returns : goal.returns
returns c = worked
