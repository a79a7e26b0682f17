use Rattle.lx_namer.proofs.Marked.{ports_next}
use Rattle.lx_namer.proofs.marks.mark_ports.Goals as goal

pub loop-x-preserved : goal.loop-x-preserved
loop-x-preserved c = (c.loop-x.invariant.0, ports_next _ _ _ _ _ _ c.loop-x-test.true c.loop-x.invariant.1 c.mark.ensures)
