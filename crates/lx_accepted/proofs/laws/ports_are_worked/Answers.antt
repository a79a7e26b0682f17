use Rattle.lx_accepted.proofs.Rows.{instance, worked}
use Rattle.lx_accepted.proofs.laws.ports_are_worked.Goals as goal

pub returns-clause-rows : goal.returns-clause-rows
returns-clause-rows c = worked

pub returns-clause-instance : goal.returns-clause-instance
returns-clause-instance c = instance
