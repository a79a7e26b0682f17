use Rattle.lx_csr.proofs.Rows.{names_rows, words_rows, maps_rows, collections_rows, faults_rows}
use Rattle.lx_csr.proofs.worked.registers_are_worked.Goals as goal

pub returns-clause-names : goal.returns-clause-names
returns-clause-names c = names_rows

pub returns-clause-words : goal.returns-clause-words
returns-clause-words c = words_rows

pub returns-clause-maps : goal.returns-clause-maps
returns-clause-maps c = maps_rows

pub returns-clause-collections : goal.returns-clause-collections
returns-clause-collections c = collections_rows

pub returns-clause-faults : goal.returns-clause-faults
returns-clause-faults c = faults_rows
