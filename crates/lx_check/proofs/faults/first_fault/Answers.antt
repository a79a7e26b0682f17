use Rattle.lx_check.proofs.Checking.{faults_are}
use Rattle.lx_check.proofs.faults.first_fault.Goals as goal

pub returns : goal.returns
returns c = faults_are c.args.design.now _ _ _ c.in_ok-storage.ensures c.in_ok-drivers.ensures c.in_ok-clocks.ensures
