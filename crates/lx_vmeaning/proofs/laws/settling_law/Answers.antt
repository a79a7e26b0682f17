use Rattle.lx_vmeaning.proofs.Views.{settling}
use Rattle.lx_vmeaning.proofs.laws.settling_law.Goals as goal

pub returns : goal.returns
returns c = settling
