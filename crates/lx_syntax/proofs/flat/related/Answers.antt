use Rattle.lx_syntax.proofs.Counting.{related_one, related_three, related_two}
use Rattle.lx_syntax.proofs.flat.related.Goals as goal

pub returns-in-One : goal.returns-in-One
returns-in-One c = related_one _ _ _ _ _ c.in-One.ensures c.compared_two.ensures

pub returns-in-Two : goal.returns-in-Two
returns-in-Two c = related_two _ _ _ _ c.in-Two.ensures (c.is_nothing.ensures _)

pub returns-in-Three : goal.returns-in-Three
returns-in-Three c = related_three _ _ _ _ c.in-Three.ensures (c.is_nothing-in-Three.ensures _)
