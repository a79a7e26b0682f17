use Rattle.lx_lowering.proofs.Law.{lowering_extends}
use Rattle.lx_lowering.proofs.extending_law.Goals as goal

pub returns : goal.returns
returns c = lowering_extends
