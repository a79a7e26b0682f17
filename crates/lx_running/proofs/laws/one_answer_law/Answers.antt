use Rattle.lx_running.proofs.Once.{one_answer}
use Rattle.lx_running.proofs.laws.one_answer_law.Goals as goal

pub returns : goal.returns
returns c = one_answer
