use Rattle.lx_rows.proofs.OperatorTexts.{are_read}
use Rattle.lx_rows.proofs.operators.operators_are_read.Goals as goal

pub returns : goal.returns
returns c = are_read
