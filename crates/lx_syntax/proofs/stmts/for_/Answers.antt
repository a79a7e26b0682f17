use Rattle.lx_syntax.proofs.Looping.{for_done, for_node}
use Rattle.lx_syntax.proofs.stmts.for_.Goals as goal

pub returns-in-Done : goal.returns-in-Done
returns-in-Done c = for_done _ _ _ _ c.in-Done.ensures

pub returns-in-Node : goal.returns-in-Node
returns-in-Node c = for_node _ _ _ _ _ _ c.in-Node.ensures
