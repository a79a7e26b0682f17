use Rattle.std.proofs.Common.{◌≡◌, drop, map}
use Rattle.lx_syntax.specs.Forms.{expr_of, param_at}
use Rattle.lx_run.specs.Classes.{param_name, params_bound}
use Rattle.lx_run.proofs.classes.params_bound.Given as goal

abbrev pub invariant-loop-at : goal.invariant-loop-at
invariant-loop-at l = params_bound l.line l.class l.values l.at (map param_name (map (param_at l.syntax.src (expr_of l.syntax)) (drop l.at l.params))) l.machine ≡ params_bound l.line l.class l.values 0 (map param_name (map (param_at l.syntax.src (expr_of l.syntax)) l.params)) l.initial.machine
