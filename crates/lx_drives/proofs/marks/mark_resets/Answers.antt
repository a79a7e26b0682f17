use Rattle.std.proofs.Common.{subst}
use Rattle.lx_fhdl.specs.Keeping.{Keeps}
use Rattle.lx_drives.proofs.Marked.{domain_reset_there, resets_next, resets_none}
use Rattle.lx_drives.proofs.marks.mark_resets.Goals as goal

pub loop-domain-init : goal.loop-domain-init
loop-domain-init c = ((rw c.lowered.view_is at c.as_slice-domain-items.ensures), resets_none _ _ c.requires.ios)

pub mark_reset-requires : goal.mark_reset-requires
mark_reset-requires c = domain_reset_there _ _ _ _ _ (subst Keeps c.lowered.view_is c.lowered.invariant.keeps) c.loop-domain.invariant.0 c.loop-domain-test.true c.domain-item.is c.loop-domain.invariant.1.long

pub loop-domain-preserved : goal.loop-domain-preserved
loop-domain-preserved c = (c.loop-domain.invariant.0, resets_next _ _ _ _ _ _ c.loop-domain-test.true c.domain-item.is c.loop-domain.invariant.1 c.mark_reset.ensures)
