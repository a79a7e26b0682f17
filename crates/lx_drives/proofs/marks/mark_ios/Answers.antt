use Rattle.std.proofs.Common.{subst}
use Rattle.lx_fhdl.specs.Keeping.{Keeps}
use Rattle.lx_drives.proofs.Marked.{among_next}
use Rattle.lx_drives.proofs.marks.mark_ios.Goals as goal

pub loop-x-preserved : goal.loop-x-preserved
loop-x-preserved c = (c.loop-x.invariant.0, among_next _ _ _ _ _ (subst Keeps c.lowered.view_is c.lowered.invariant.keeps) c.loop-x.invariant.0 c.loop-x-test.true c.loop-x.invariant.1)
