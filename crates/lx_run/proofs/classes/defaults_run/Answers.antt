use Rattle.std.proofs.Common.{◌≡◌, ◌∙◌, ◌+◌, ◌++◌, List, drop, map, sym, ap, subst, arith, rules}
use Rattle.std.specs.Prelude.{Option}
use Rattle.lx_syntax.specs.Forms.{expr_of, param_at}
use Rattle.lx_state.specs.declared.values.Value.{Value}
use Rattle.lx_state.specs.Step.{Stops, give, go_on}
use Rattle.lx_run.specs.Classes.{defaults_run}
use Rattle.lx_run.specs.Meant.{makes}
use Rattle.lx_run.proofs.Going.{defaults_next, defaults_stop}
use Rattle.lx_run.proofs.classes.defaults_run.Goals as goal

pub returns-in_err-value : goal.returns-in_err-value
returns-in_err-value c =
    let stop = defaults_stop c.in_err-value.field-0.0 (makes c.args.syntax.now c.args.depth.classes) (param_at c.args.syntax.now.src (expr_of c.args.syntax.now)) c.args.params.now c.loop-param.param-index _ c.loop-param.defaults c.loop-param.machine (omega arith) c.in_err-value.ensures in
    let whole : Stops c.in_err-value.field-0.0 (defaults_run (makes c.args.syntax.now c.args.depth.classes) (map (param_at c.args.syntax.now.src (expr_of c.args.syntax.now)) c.args.params.now) c.args.machine.now) = subst (λ o. Stops c.in_err-value.field-0.0 o) c.loop-param.invariant stop in
    search (rules, whole)

pub loop-param-preserved : goal.loop-param-preserved
loop-param-preserved c =
    ap (λ (made : List (Option Value)). go_on (defaults_run (makes c.args.syntax.now c.args.depth.classes) (map (param_at c.args.syntax.now.src (expr_of c.args.syntax.now)) (drop (c.loop-param.param-index + 1) c.args.params.now)) c.default_run.new.machine) (λ more. give (made ++ more))) c.in_ok-push.ensures.ok
    ∙ (sym (defaults_next (makes c.args.syntax.now c.args.depth.classes) (param_at c.args.syntax.now.src (expr_of c.args.syntax.now)) c.args.params.now c.loop-param.param-index _ c.loop-param.defaults c.in_ok-value.value c.loop-param.machine c.default_run.new.machine (omega arith) c.in_ok-value.ensures) ∙ c.loop-param.invariant)
