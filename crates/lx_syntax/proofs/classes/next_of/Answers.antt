use Rattle.lx_syntax.proofs.Classing.{next_from}
use Rattle.lx_syntax.proofs.classes.next_of.Goals as goal

pub returns-in-Token-head_of : goal.returns-in-Token-head_of
returns-in-Token-head_of c = next_from _ _ _ _ _ _ _ c.in-Token.ensures c.in-Token-head_of.ensures c.named.ensures
