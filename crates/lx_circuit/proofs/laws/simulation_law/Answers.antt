use Rattle.lx_circuit.specs.Runs.{Matches}
use Rattle.lx_circuit.proofs.Runs.{extends_by, steps_with}
use Rattle.lx_circuit.proofs.laws.simulation_law.Goals as goal

pub returns : goal.returns
returns g n c e to h = extends_by n c e (Matches to) (steps_with n c e (Matches to) h)
