use Rattle.lx_circuit.proofs.Instances.{memory_view}
use Rattle.lx_circuit.proofs.laws.instance_law.Goals as goal

pub returns : goal.returns
returns c = memory_view
