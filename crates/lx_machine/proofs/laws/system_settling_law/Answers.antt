use Rattle.lx_machine.proofs.Settle.{settles_once}
use Rattle.lx_machine.proofs.laws.system_settling_law.Goals as goal

pub returns : goal.returns
returns c = settles_once
