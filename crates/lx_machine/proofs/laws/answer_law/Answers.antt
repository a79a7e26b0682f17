use Rattle.lx_machine.proofs.Access.{answer_law}
use Rattle.lx_machine.proofs.laws.answer_law.Goals as goal

pub returns : goal.returns
returns c = answer_law
