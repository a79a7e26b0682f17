use Rattle.lx_syntax.proofs.Classing.{classes_more}
use Rattle.lx_syntax.proofs.classes.classes_among.Goals as goal

pub classes-preserved : goal.classes-preserved
classes-preserved c = classes_more _ _ _ _ _ _ _ _ _ c.classes.invariant c.in-Next.ensures.0 c.in_ok-put-in-Next.ensures
