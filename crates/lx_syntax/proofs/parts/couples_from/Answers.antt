use Rattle.lx_syntax.proofs.Splitting.{couples_all, couples_more}
use Rattle.lx_syntax.proofs.parts.couples_from.Goals as goal

pub couples-preserved : goal.couples-preserved
couples-preserved c = couples_more _ _ _ _ _ _ _ c.couples.invariant c.in-Next.ensures.0 c.in_ok-push-in-Next.ensures.ok

pub returns-in-Done : goal.returns-in-Done
returns-in-Done c = couples_all _ _ _ c.couples.invariant c.in-Done.ensures
