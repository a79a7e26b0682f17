use Rattle.lx_syntax.proofs.Counting.{alone_two, prefixed_one}
use Rattle.lx_syntax.proofs.flat.prefixed_by.Goals as goal

pub returns-in-One : goal.returns-in-One
returns-in-One c = prefixed_one _ _ _ c.in-One.ensures

pub returns-in-Two : goal.returns-in-Two
returns-in-Two c = alone_two _ _ _ _ c.in-Two.ensures
