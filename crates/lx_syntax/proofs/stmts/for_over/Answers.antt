use Rattle.lx_syntax.proofs.Looping.{over_more, over_node, over_open, over_tokens}
use Rattle.lx_syntax.proofs.stmts.for_over.Goals as goal

pub returns-in-Node : goal.returns-in-Node
returns-in-Node c = over_node _ _ _ _ _ _ _ c.in-Node.ensures

pub returns-in-Done-head_of : goal.returns-in-Done-head_of
returns-in-Done-head_of c = over_open _ _ _ _ _ _ _ c.in-Token.ensures c.in-Done-head_of.ensures

pub returns-in-Token-head_of : goal.returns-in-Token-head_of
returns-in-Token-head_of c = over_tokens _ _ _ _ _ _ _ _ _ c.in-Token.ensures c.in-Token-head_of.ensures

pub returns-in-Token-head_of-2 : goal.returns-in-Token-head_of-2
returns-in-Token-head_of-2 c = over_more _ _ _ _ _ _ _ _ _ _ _ c.in-Token.ensures c.in-Node-head_of.ensures c.in-Token-head_of-2.ensures

pub returns-in-Node-head_of-2 : goal.returns-in-Node-head_of-2
returns-in-Node-head_of-2 c = over_more _ _ _ _ _ _ _ _ _ _ _ c.in-Token.ensures c.in-Node-head_of.ensures c.in-Node-head_of-2.ensures
