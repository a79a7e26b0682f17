use Rattle.lx_circuit.proofs.Runs.{extends_then}
use Rattle.lx_circuit.proofs.laws.chain_law.Goals as goal

pub returns : goal.returns
returns c = extends_then
