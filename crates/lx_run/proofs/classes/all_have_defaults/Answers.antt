use Rattle.std.proofs.Common.{◌∙◌, sym, arith}
use Rattle.lx_syntax.specs.Forms.{expr_of}
use Rattle.lx_run.proofs.Going.{with_default, without_default}
use Rattle.lx_run.proofs.classes.all_have_defaults.Goals as goal

pub returns-then-is_required : goal.returns-then-is_required
returns-then-is_required c = sym (without_default c.args.syntax.now.src (expr_of c.args.syntax.now) c.args.params.now c.loop-param.param-index _ (omega arith) (sym c.is_required.ensures ∙ c.if-is_required.true)) ∙ c.loop-param.invariant

pub loop-param-preserved : goal.loop-param-preserved
loop-param-preserved c = sym (with_default c.args.syntax.now.src (expr_of c.args.syntax.now) c.args.params.now c.loop-param.param-index _ (omega arith) (sym c.is_required.ensures ∙ c.if-is_required.false)) ∙ c.loop-param.invariant
