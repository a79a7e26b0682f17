use Rattle.lx_run.proofs.Lower.{expr_lower}
use Rattle.lx_run.proofs.reading.expr_at.Goals as goal

pub returns-clause-lower : goal.returns-clause-lower
returns-clause-lower c = expr_lower c.args.id.place c.node.result.now c.node.ensures.below
