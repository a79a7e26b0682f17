use Rattle.lx_top.proofs.Flat.{module_rows}
use Rattle.lx_top.proofs.laws.modules_are_worked.Goals as goal

pub returns : goal.returns
returns c = module_rows
