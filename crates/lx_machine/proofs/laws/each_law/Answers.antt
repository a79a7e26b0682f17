use Rattle.lx_machine.proofs.Others.{reads_asked, writes_asked, each_ran}
use Rattle.lx_machine.proofs.laws.each_law.Goals as goal

pub returns : goal.returns
returns c = record { reads = reads_asked; writes = writes_asked; each = each_ran }
