use Rattle.lx_exprs.proofs.Moved.{plain_added, plain_put}
use Rattle.lx_exprs.proofs.exprs.lower_expr.Goals as goal

pub push_expr-requires : goal.push_expr-requires
push_expr-requires c =
    rw (c.in_ok-copy-in_default.ensures, c.places-places.ensures) (plain_added _ _ _ c.design-design.ensures.keeps c.requires.lowered c.requires.node c.in_default.not-Binary c.in_default.not-Pick)

pub returns-in_ok-id-in_default : goal.returns-in_ok-id-in_default
returns-in_ok-id-in_default c =
    plain_put _ _ _ _ _ c.design-design.ensures.keeps c.requires.lowered c.requires.node c.in_default.not-Binary c.in_default.not-Pick (rw (c.in_ok-copy-in_default.ensures, c.places-places.ensures) at c.in_ok-id-in_default.ensures)
