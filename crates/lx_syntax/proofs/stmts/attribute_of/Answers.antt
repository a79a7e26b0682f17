use Rattle.lx_syntax.proofs.Simply.{name_more}
use Rattle.lx_syntax.proofs.stmts.attribute_of.Goals as goal

pub returns-in-Token : goal.returns-in-Token
returns-in-Token c = name_more _ _ _ _ _ _ c.in-Token.ensures

pub returns-in-Node : goal.returns-in-Node
returns-in-Node c = name_more _ _ _ _ _ _ c.in-Node.ensures
