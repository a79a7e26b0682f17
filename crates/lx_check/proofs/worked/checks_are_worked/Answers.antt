use Rattle.lx_check.proofs.Rows.{faults_worked, reads_worked}
use Rattle.lx_check.proofs.worked.checks_are_worked.Goals as goal

pub returns-clause-reads : goal.returns-clause-reads
returns-clause-reads c = reads_worked

pub returns-clause-faults : goal.returns-clause-faults
returns-clause-faults c = faults_worked
