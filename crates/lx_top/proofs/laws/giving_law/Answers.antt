use Rattle.lx_top.proofs.Giving.{giving}
use Rattle.lx_top.proofs.laws.giving_law.Goals as goal

pub returns : goal.returns
returns c = giving
