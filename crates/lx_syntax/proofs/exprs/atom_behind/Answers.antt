use Rattle.lx_syntax.proofs.Wording.{empty_made, empty_node, empty_token, leaf_made}
use Rattle.lx_syntax.proofs.exprs.atom_behind.Goals as goal

pub returns-in-Done : goal.returns-in-Done
returns-in-Done c = leaf_made _ _ _ _ _ _ c.in-Done.ensures c.leaf.ensures

pub returns-in-Done-head_of : goal.returns-in-Done-head_of
returns-in-Done-head_of c = empty_made _ _ _ _ _ _ _ _ c.in-Token.ensures c.in-Done-head_of.ensures c.empty.ensures

pub returns-in-Token-head_of : goal.returns-in-Token-head_of
returns-in-Token-head_of c = empty_token _ _ _ _ _ _ _ _ _ c.in-Token.ensures c.in-Token-head_of.ensures

pub returns-in-Node-head_of : goal.returns-in-Node-head_of
returns-in-Node-head_of c = empty_node _ _ _ _ _ _ _ _ _ c.in-Token.ensures c.in-Node-head_of.ensures
