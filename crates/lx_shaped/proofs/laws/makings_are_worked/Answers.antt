use Rattle.lx_shaped.proofs.Rows.{made, faulty, misplaced, assigned, declared}
use Rattle.lx_shaped.proofs.laws.makings_are_worked.Goals as goal

pub returns-clause-made : goal.returns-clause-made
returns-clause-made c = made

pub returns-clause-faulty : goal.returns-clause-faulty
returns-clause-faulty c = faulty

pub returns-clause-misplaced : goal.returns-clause-misplaced
returns-clause-misplaced c = misplaced

pub returns-clause-assigned : goal.returns-clause-assigned
returns-clause-assigned c = assigned

pub returns-clause-declared : goal.returns-clause-declared
returns-clause-declared c = declared
