use Rattle.std.proofs.Common.{◌≡◌, drop, map}
use Rattle.lx_syntax.specs.Forms.{expr_of, param_at}
use Rattle.lx_run.specs.Classes.{all_have_defaults}
use Rattle.lx_run.proofs.classes.all_have_defaults.Given as goal

abbrev pub invariant-loop-param : goal.invariant-loop-param
invariant-loop-param l = all_have_defaults (map (param_at l.syntax.src (expr_of l.syntax)) (drop l.param-index l.params)) ≡ all_have_defaults (map (param_at l.syntax.src (expr_of l.syntax)) l.params)
