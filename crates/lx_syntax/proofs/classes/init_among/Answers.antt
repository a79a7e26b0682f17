use Rattle.std.proofs.Common.{refl}
use Rattle.std.proofs.lemmas.Result.{IfOk-weaker}
use Rattle.lx_syntax.proofs.Classing.{first_init, no_init}
use Rattle.lx_syntax.proofs.classes.init_among.Goals as goal

pub returns-in-Done : goal.returns-in-Done
returns-in-Done c = no_init _ _ _ _ _ _ c.in-Done.ensures refl c.new-params.ensures c.new-body.ensures

pub returns-in-Next : goal.returns-in-Next
returns-in-Next c = IfOk-weaker c.init_at.result _ _ (λ init is. first_init _ _ _ _ _ init c.in-Next.ensures.0 is) c.init_at.ensures
