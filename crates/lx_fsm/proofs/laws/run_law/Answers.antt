use Rattle.lx_fsm.proofs.Law.{runs}
use Rattle.lx_fsm.proofs.laws.run_law.Goals as goal

pub returns : goal.returns
returns c = runs
