use Rattle.lx_syntax.proofs.Arming.{branch_block, branch_node, branch_open, branch_token}
use Rattle.lx_syntax.proofs.stmts.arm_branch.Goals as goal

pub returns-in-Node : goal.returns-in-Node
returns-in-Node c = branch_node _ _ _ _ _ c.in-Node.ensures

pub returns-in-Done-head_of : goal.returns-in-Done-head_of
returns-in-Done-head_of c = branch_open _ _ _ _ _ c.in-Token.ensures c.in-Done-head_of.ensures

pub returns-in-Token-head_of : goal.returns-in-Token-head_of
returns-in-Token-head_of c = branch_token _ _ _ _ _ _ _ c.in-Token.ensures c.in-Token-head_of.ensures

pub returns-in-Node-head_of : goal.returns-in-Node-head_of
returns-in-Node-head_of c = branch_block c.args.x _ c.args.condition c.in-Node-head_of.block _ _ c.in-Node-head_of.left c.in-Token.ensures c.in-Node-head_of.ensures
