use Rattle.lx_syntax.proofs.Blocking.{no_stmt_at}
use Rattle.lx_syntax.proofs.stmts.stmt.Goals as goal

pub returns-in_default : goal.returns-in_default
returns-in_default c = no_stmt_at _ _ _ _ c.node-node.ensures.tree c.in_default.not-Simple c.in_default.not-If c.in_default.not-For
