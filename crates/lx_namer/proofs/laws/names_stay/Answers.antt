use Rattle.lx_namer.proofs.Staying.{names_stay}
use Rattle.lx_namer.proofs.laws.names_stay.Goals as goal

pub returns : goal.returns
returns c = names_stay
