use Rattle.lx_run.proofs.Lower.{stmt_lower}
use Rattle.lx_run.proofs.reading.stmt_at.Goals as goal

pub returns-clause-lower : goal.returns-clause-lower
returns-clause-lower c = stmt_lower c.args.id.place c.node.result.now c.node.ensures.below
