use Rattle.lx_syntax.proofs.Counting.{alone_two, nothing_one}
use Rattle.lx_syntax.proofs.flat.is_nothing.Goals as goal

pub returns-in-One : goal.returns-in-One
returns-in-One c = nothing_one _ _ _ c.in-One.ensures

pub returns-in-Two : goal.returns-in-Two
returns-in-Two c = alone_two _ _ _ _ c.in-Two.ensures
