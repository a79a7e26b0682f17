use Rattle.lx_machine.proofs.Access.{pend_written, pend_others}
use Rattle.lx_machine.proofs.laws.pending_law.Goals as goal

pub returns : goal.returns
returns c = record { written = pend_written; others = pend_others }
