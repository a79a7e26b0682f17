use Rattle.lx_syntax.proofs.Simply.{simple_done, simple_pass}
use Rattle.lx_syntax.proofs.stmts.simple.Goals as goal

pub returns-in-Done : goal.returns-in-Done
returns-in-Done c = simple_done _ _ _ _ c.in-Done.ensures

pub returns-in-Token : goal.returns-in-Token
returns-in-Token c = simple_pass _ _ _ _ _ _ c.in-Token.ensures
