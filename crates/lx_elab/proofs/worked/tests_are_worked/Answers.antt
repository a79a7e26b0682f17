use Rattle.lx_elab.proofs.Tested.{tested}
use Rattle.lx_elab.proofs.worked.tests_are_worked.Goals as goal

pub returns : goal.returns
returns c = tested
