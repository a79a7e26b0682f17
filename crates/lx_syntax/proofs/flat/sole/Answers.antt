use Rattle.lx_syntax.proofs.Counting.{alone_two}
use Rattle.lx_syntax.proofs.flat.sole.Goals as goal

pub returns-in-Two : goal.returns-in-Two
returns-in-Two c = alone_two _ _ _ _ c.in-Two.ensures
