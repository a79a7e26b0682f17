use Rattle.std.proofs.Common.{◌≡◌, ◌++◌, drop, map}
use Rattle.lx_syntax.specs.Forms.{expr_of, param_at}
use Rattle.lx_state.specs.Step.{give, go_on}
use Rattle.lx_run.specs.Classes.{defaults_run}
use Rattle.lx_run.specs.Meant.{makes}
use Rattle.lx_run.proofs.classes.defaults_run.Given as goal

abbrev pub invariant-loop-param : goal.invariant-loop-param
invariant-loop-param l = go_on (defaults_run (makes l.syntax l.depth.classes) (map (param_at l.syntax.src (expr_of l.syntax)) (drop l.param-index l.params)) l.machine) (λ defaults. give (l.defaults ++ defaults)) ≡ defaults_run (makes l.syntax l.depth.classes) (map (param_at l.syntax.src (expr_of l.syntax)) l.params) l.initial.machine
