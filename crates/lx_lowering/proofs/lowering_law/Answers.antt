use Rattle.lx_lowering.proofs.Law.{lowering}
use Rattle.lx_lowering.proofs.lowering_law.Goals as goal

pub returns : goal.returns
returns c = lowering
