use Rattle.lx_description.proofs.Instance.{plain_keeps, system_keeps}
use Rattle.lx_description.proofs.laws.some_descriptions_keep.Goals as goal

pub returns-clause-plain : goal.returns-clause-plain
returns-clause-plain c = plain_keeps

pub returns-clause-system : goal.returns-clause-system
returns-clause-system c = system_keeps
