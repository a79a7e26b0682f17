use Rattle.lx_top.proofs.Complete.{complete}
use Rattle.lx_top.proofs.laws.completeness_law.Goals as goal

pub returns : goal.returns
returns c = complete
