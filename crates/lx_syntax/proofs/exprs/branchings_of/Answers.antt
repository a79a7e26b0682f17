use Rattle.lx_syntax.proofs.Bracketing.{branchings_more, value_inside}
use Rattle.lx_syntax.proofs.exprs.branchings_of.Goals as goal

pub line_at-line-requires-clause-inside : goal.line_at-line-requires-clause-inside
line_at-line-requires-clause-inside c = value_inside _ _ _ _ _ _ _ _ _ _ c.branchings.invariant c.in-Next.ensures.0

pub branchings-preserved : goal.branchings-preserved
branchings-preserved c = branchings_more _ _ _ _ _ _ _ _ _ _ _ _ c.branchings.invariant c.in-Next.ensures.0 c.in_ok-push-in-Next.ensures.ok c.line_at-line.ensures
