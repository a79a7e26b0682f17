use Rattle.lx_vtree.proofs.Grown.{stmt_added}
use Rattle.lx_vtree.proofs.trees.Nodes.add_stmt.Goals as goal

pub returns-clause-ok : goal.returns-clause-ok
returns-clause-ok c =
    rw (← c.self.view_is, c.in_ok-id.ensures.ok.0, c.in_ok-id.ensures.ok.1)
    (stmt_added _ _ _ (rw c.in_ok-id.ensures.ok.1 at c.in_ok-id.ensures.new) (rw (← c.self.view_is) at c.requires.below))
