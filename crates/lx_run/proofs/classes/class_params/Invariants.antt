use Rattle.std.proofs.Common.{◌≡◌, ◌++◌, drop, map}
use Rattle.lx_syntax.specs.Forms.{expr_of, param_at}
use Rattle.lx_run.specs.Classes.{param_of}
use Rattle.lx_run.proofs.classes.class_params.Given as goal

abbrev pub invariant-loop-param : goal.invariant-loop-param
invariant-loop-param l = l.made ++ map param_of (map (param_at l.syntax.src (expr_of l.syntax)) (drop l.param-index l.params)) ≡ map param_of (map (param_at l.syntax.src (expr_of l.syntax)) l.params)
