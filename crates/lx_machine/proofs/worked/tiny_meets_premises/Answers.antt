use Rattle.lx_machine.proofs.Tiny.{tiny_meets}
use Rattle.lx_machine.proofs.worked.tiny_meets_premises.Goals as goal

pub returns : goal.returns
returns c = tiny_meets
