use Rattle.lx_syntax.proofs.Arming.{arm_node}
use Rattle.lx_syntax.proofs.stmts.arm_of.Goals as goal

pub returns-in-Node : goal.returns-in-Node
returns-in-Node c = arm_node _ _ _ c.in-Node.ensures
