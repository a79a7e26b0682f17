use Rattle.lx_namer.proofs.Marked.{resets_next}
use Rattle.lx_namer.proofs.marks.mark_resets.Goals as goal

pub loop-domain-preserved : goal.loop-domain-preserved
loop-domain-preserved c = (c.loop-domain.invariant.0, resets_next _ _ _ _ _ _ _ c.loop-domain-test.true c.domain-item.is c.loop-domain.invariant.1 c.mark_reset.ensures)
