use Rattle.lx_vmeaning.proofs.Views.{viewed_once}
use Rattle.lx_vmeaning.proofs.laws.view_law.Goals as goal

pub returns : goal.returns
returns c = viewed_once
