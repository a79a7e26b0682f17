use Rattle.lx_machine.proofs.Accessors.{shown_law}
use Rattle.lx_machine.proofs.laws.shown_law.Goals as goal

pub returns : goal.returns
returns c = shown_law
