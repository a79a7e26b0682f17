use Rattle.std.proofs.Common.{length}
use Rattle.lx_syntax.specs.Classing.{ParamsRead}
use Rattle.lx_syntax.proofs.classes.params_of.Given as goal

abbrev pub invariant-params : goal.invariant-params
invariant-params l = ParamsRead l.src l.parts l.rest l.params

abbrev pub decreases-params : goal.decreases-params
decreases-params l = length l.rest
