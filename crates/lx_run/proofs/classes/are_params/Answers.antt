use Rattle.std.proofs.Common.{◌∙◌, [], ◌∷◌, ap, codes, map, sym}
use Rattle.lx_syntax.specs.Forms.{expr_of, param_at}
use Rattle.lx_value.specs.Seen.{are_new, with_new}
use Rattle.lx_value.proofs.Repeats.{Names}
use Rattle.lx_run.specs.Classes.{param_name}
use Rattle.lx_run.proofs.Parameters.{distinct_new}
use Rattle.lx_run.proofs.classes.are_params.Goals as goal

pub loop-param-init : goal.loop-param-init
loop-param-init c =
    let names : Names = map param_name (map (param_at c.args.syntax.now.src (expr_of c.args.syntax.now)) c.args.params.now) in
    distinct_new (codes "self" ∷ names) ∙ ap (λ (seen : Names). are_new seen names) (sym (c.in_ok-add.ensures.ok ∙ ap (with_new (codes "self")) c.new-seen.ensures))
