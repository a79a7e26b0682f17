use Rattle.lx_agree.proofs.Agree.{agrees}
use Rattle.lx_agree.proofs.agreement_law.Goals as goal

pub returns : goal.returns
returns c = agrees
