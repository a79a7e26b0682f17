use Rattle.lx_circuit.proofs.Extension.{registered_extends}
use Rattle.lx_circuit.proofs.laws.extension_instance_law.Goals as goal

pub returns : goal.returns
returns c = registered_extends
