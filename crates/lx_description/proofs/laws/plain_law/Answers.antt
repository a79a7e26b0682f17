use Rattle.lx_description.proofs.Plain.{plain_keeps}
use Rattle.lx_description.proofs.laws.plain_law.Goals as goal

pub returns : goal.returns
returns c = plain_keeps
