use Rattle.lx_check.proofs.Checking.{loop_is}
use Rattle.lx_check.proofs.order.loop_fault.Goals as goal

pub returns : goal.returns
returns c = rw (c.first_line.ensures, c.in_ok-names.ensures) (loop_is _ _ _ c.requires.marks c.requires.signals)
