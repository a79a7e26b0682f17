use Rattle.lx_circuit.proofs.Views.{viewed_once}
use Rattle.lx_circuit.proofs.laws.view_law.Goals as goal

pub returns : goal.returns
returns c = viewed_once
