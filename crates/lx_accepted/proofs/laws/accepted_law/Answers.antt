use Rattle.lx_accepted.proofs.Faultless.{accepted}
use Rattle.lx_accepted.proofs.laws.accepted_law.Goals as goal

pub returns : goal.returns
returns c = accepted
