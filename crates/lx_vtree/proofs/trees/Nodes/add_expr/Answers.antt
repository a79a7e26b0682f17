use Rattle.lx_vtree.proofs.Grown.{expr_added}
use Rattle.lx_vtree.proofs.trees.Nodes.add_expr.Goals as goal

pub returns-clause-ok : goal.returns-clause-ok
returns-clause-ok c =
    rw (← c.self.view_is, c.in_ok-id.ensures.ok.0, c.in_ok-id.ensures.ok.1)
    (expr_added _ _ _ (rw c.in_ok-id.ensures.ok.1 at c.in_ok-id.ensures.new) c.lower.ensures c.self.invariant (rw (← c.self.view_is) at c.requires))
