use Rattle.lx_syntax.proofs.Arming.{else_node, else_token}
use Rattle.lx_syntax.proofs.stmts.arm_else.Goals as goal

pub returns-in-Token : goal.returns-in-Token
returns-in-Token c = else_token _ _ _ _ _ c.in-Token.ensures

pub returns-in-Node : goal.returns-in-Node
returns-in-Node c = else_node c.args.x c.args.y c.in-Node.block _ _ c.in-Node.ensures
