use Rattle.lx_syntax.proofs.Counting.{pair_one}
use Rattle.lx_syntax.proofs.flat.compared_two.Goals as goal

pub returns-in-One : goal.returns-in-One
returns-in-One c = pair_one _ _ _ c.in-One.ensures _
