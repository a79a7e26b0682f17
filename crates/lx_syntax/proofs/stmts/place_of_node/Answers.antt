use Rattle.lx_syntax.proofs.Simply.{of_dot, of_dot_node, of_node}
use Rattle.lx_syntax.proofs.stmts.place_of_node.Goals as goal

pub returns-in-Node : goal.returns-in-Node
returns-in-Node c = of_node _ _ _ _ c.in-Node.ensures

pub returns-in-Done-head_of : goal.returns-in-Done-head_of
returns-in-Done-head_of c = of_dot _ _ _ _ c.in-Token.ensures c.in-Done-head_of.ensures

pub returns-in-Node-head_of : goal.returns-in-Node-head_of
returns-in-Node-head_of c = of_dot_node _ _ _ _ _ _ c.in-Token.ensures c.in-Node-head_of.ensures
