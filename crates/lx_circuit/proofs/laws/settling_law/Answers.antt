use Rattle.lx_circuit.proofs.Settle.{settles_once}
use Rattle.lx_circuit.proofs.laws.settling_law.Goals as goal

pub returns : goal.returns
returns c = settles_once
