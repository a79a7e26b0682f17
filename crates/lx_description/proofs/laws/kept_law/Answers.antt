use Rattle.lx_description.proofs.Kept.{keeps_description-is}
use Rattle.lx_description.proofs.laws.kept_law.Goals as goal

pub returns : goal.returns
returns c = keeps_description-is
