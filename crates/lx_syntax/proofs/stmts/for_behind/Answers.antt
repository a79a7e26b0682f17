use Rattle.lx_syntax.proofs.Looping.{names_done, names_node, word_done, word_token}
use Rattle.lx_syntax.proofs.stmts.for_behind.Goals as goal

pub returns-in-Done : goal.returns-in-Done
returns-in-Done c = word_done _ _ _ _ _ c.in-Done.ensures

pub returns-in-Token : goal.returns-in-Token
returns-in-Token c = word_token _ _ _ _ _ _ _ c.in-Token.ensures

pub returns-in-Done-head_of : goal.returns-in-Done-head_of
returns-in-Done-head_of c = names_done _ _ _ _ _ _ _ c.in-Node.ensures c.in-Done-head_of.ensures

pub returns-in-Node-head_of : goal.returns-in-Node-head_of
returns-in-Node-head_of c = names_node _ _ _ _ _ _ _ _ _ c.in-Node.ensures c.in-Node-head_of.ensures
