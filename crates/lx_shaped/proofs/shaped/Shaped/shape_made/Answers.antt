use Rattle.std.proofs.Common.{sym, ◌∙◌}
use Rattle.lx_shaped.proofs.Calls.{shape_misplaced, shape_ok, shape_err}
use Rattle.lx_shaped.proofs.shaped.Shaped.shape_made.Goals as goal

pub returns-then-not-expr_stands : goal.returns-then-not-expr_stands
returns-then-not-expr_stands c = shape_misplaced c.args.node.now c.args.self.now (sym c.expr_stands.ensures ∙ c.if-not-expr_stands.true)

pub returns-in-Ok : goal.returns-in-Ok
returns-in-Ok c =
    let found = rw (c.as_slice-signals.ensures, c.as_slice.ensures, c.design.ensures.is) at c.in-Ok.ensures in
    rw (← c.self.view_is) (shape_ok c.args.node.now c.self.inside.draft c.self.inside.shapes c.in-Ok.shape c.design.ensures.keeps c.self.invariant.exprs (rw (← c.self.view_is) at (sym c.expr_stands.ensures ∙ c.if-not-expr_stands.false)) found)

pub returns-in-Err : goal.returns-in-Err
returns-in-Err c =
    let found = rw (c.as_slice-signals.ensures, c.as_slice.ensures, c.design.ensures.is) at c.in-Err.ensures in
    rw (← c.self.view_is) (shape_err c.args.node.now c.self.inside.draft c.self.inside.shapes c.in-Err.fault c.design.ensures.keeps c.self.invariant.exprs (rw (← c.self.view_is) at (sym c.expr_stands.ensures ∙ c.if-not-expr_stands.false)) found)
