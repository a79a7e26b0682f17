use Rattle.lx_circuit.specs.Runs.{Matches}
use Rattle.lx_circuit.proofs.Runs.{extends_by}
use Rattle.lx_circuit.proofs.laws.extension_law.Goals as goal

pub returns : goal.returns
returns g n c e to = extends_by n c e (Matches to)
