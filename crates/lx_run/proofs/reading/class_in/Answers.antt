use Rattle.std.proofs.Common.{length}
use Rattle.lx_run.proofs.Lower.{class_lower}
use Rattle.lx_run.proofs.reading.class_in.Goals as goal

pub returns-clause-lower : goal.returns-clause-lower
returns-clause-lower c = class_lower (length c.args.syntax.now.nodes) c.class.result.now c.class.ensures.inside
