use Rattle.std.proofs.Common.{◌∙◌, ◌++◌, ◌+◌, List, [], ◌∷◌, ap, drop, map, arith}
use Rattle.lx_value.specs.declared.arguments.Param.{Param}
use Rattle.lx_syntax.specs.Forms.{expr_of, param_at}
use Rattle.lx_run.specs.Classes.{param_of}
use Rattle.lx_run.proofs.Going.{params_next}
use Rattle.lx_run.proofs.classes.class_params.Goals as goal

pub loop-param-preserved : goal.loop-param-preserved
loop-param-preserved c =
    ap (λ (made : List Param). made ++ map param_of (map (param_at c.args.syntax.now.src (expr_of c.args.syntax.now)) (drop (c.loop-param.param-index + 1) c.args.params.now))) (c.in_ok-push.ensures.ok ∙ ap (λ (x : Param). c.loop-param.made ++ x ∷ []) c.in_ok-class_param.ensures) ∙ params_next c.args.syntax.now.src (expr_of c.args.syntax.now) c.args.params.now c.loop-param.param-index _ c.loop-param.made (omega arith) ∙ c.loop-param.invariant
