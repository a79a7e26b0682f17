use Rattle.std.proofs.Common.{◌≡◌, drop, map}
use Rattle.lx_syntax.specs.Forms.{expr_of, param_at}
use Rattle.lx_value.specs.Seen.{are_new}
use Rattle.lx_run.specs.Classes.{are_params, param_name}
use Rattle.lx_run.proofs.classes.are_params.Given as goal

abbrev pub invariant-loop-param : goal.invariant-loop-param
invariant-loop-param l = are_params (map (param_at l.syntax.src (expr_of l.syntax)) l.params) ≡ are_new l.seen (map param_name (map (param_at l.syntax.src (expr_of l.syntax)) (drop l.param-index l.params)))
