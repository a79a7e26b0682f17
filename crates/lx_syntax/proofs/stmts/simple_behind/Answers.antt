use Rattle.lx_syntax.proofs.Simply.{at_inside, bound_there, node_done, node_node, node_token, value_made}
use Rattle.lx_syntax.proofs.stmts.simple_behind.Goals as goal

pub place_at-requires : goal.place_at-requires
place_at-requires c = at_inside c.args.id.place _ c.args.at _ c.requires.low c.requires.inside

pub returns-in-Done : goal.returns-in-Done
returns-in-Done c = node_done _ _ _ _ _ c.in-Done.ensures

pub returns-in-Node : goal.returns-in-Node
returns-in-Node c = node_node _ _ _ _ _ _ _ c.in-Node.ensures

pub returns-in-Done-head_of : goal.returns-in-Done-head_of
returns-in-Done-head_of c = value_made _ _ _ _ _ _ _ c.requires.low c.in-Token.ensures c.in-Done-head_of.ensures

pub returns-in-Token-head_of : goal.returns-in-Token-head_of
returns-in-Token-head_of c = node_token _ _ _ _ _ _ _ _ _ c.in-Token.ensures c.in-Token-head_of.ensures

pub returns-in-Node-head_of : goal.returns-in-Node-head_of
returns-in-Node-head_of c = bound_there _ _ _ _ _ _ _ _ _ _ _ _ c.requires.low c.in-Token.ensures c.in-Node-head_of.ensures c.sign_of.ensures c.place_at.ensures c.bound.ensures
