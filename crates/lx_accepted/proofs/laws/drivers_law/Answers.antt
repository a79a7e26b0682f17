use Rattle.lx_accepted.proofs.Faultless.{faults_stay}
use Rattle.lx_accepted.proofs.laws.drivers_law.Goals as goal

pub returns : goal.returns
returns c = faults_stay
