use Rattle.lx_top.proofs.Answers.{one_answer}
use Rattle.lx_top.proofs.laws.one_answer_law.Goals as goal

pub returns : goal.returns
returns c = one_answer
