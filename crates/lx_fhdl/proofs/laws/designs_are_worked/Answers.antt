use Rattle.lx_fhdl.proofs.Rows.{worked, nodes, spelled, refused}
use Rattle.lx_fhdl.proofs.laws.designs_are_worked.Goals as goal

pub returns-clause-meaning : goal.returns-clause-meaning
returns-clause-meaning c = worked

pub returns-clause-nodes : goal.returns-clause-nodes
returns-clause-nodes c = nodes

pub returns-clause-names : goal.returns-clause-names
returns-clause-names c = spelled

pub returns-clause-refused : goal.returns-clause-refused
returns-clause-refused c = refused
