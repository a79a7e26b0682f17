use Rattle.lx_shaped.proofs.Calls.{expr_can, expr_has, expr_made, expr_faulty, expr_misplaced}
use Rattle.lx_shaped.proofs.shaped.Shaped.expr.Goals as goal

pub push_expr-requires-clause-node : goal.push_expr-requires-clause-node
push_expr-requires-clause-node c = expr_can c.args.node c.args.self.now c.in-Made.shape c.in-Made.ensures

pub push_expr-requires-clause-shape : goal.push_expr-requires-clause-shape
push_expr-requires-clause-shape c = expr_has c.args.node c.args.self.now c.in-Made.shape c.in-Made.ensures

pub returns-in_ok-id-in-Made-clause-ok : goal.returns-in_ok-id-in-Made-clause-ok
returns-in_ok-id-in-Made-clause-ok c = expr_made c.args.node c.args.self.now c.push_expr.new.self c.in-Made.shape c.in_ok-id-in-Made.id c.in-Made.ensures c.in_ok-id-in-Made.ensures.ok

pub returns-in-Faulty-clause-ok : goal.returns-in-Faulty-clause-ok
returns-in-Faulty-clause-ok c = expr_faulty c.args.node c.args.self.now c.in-Faulty.fault c.in-Faulty.ensures

pub returns-in-Misplaced-clause-ok : goal.returns-in-Misplaced-clause-ok
returns-in-Misplaced-clause-ok c = expr_misplaced c.args.node c.args.self.now c.in-Misplaced.ensures
