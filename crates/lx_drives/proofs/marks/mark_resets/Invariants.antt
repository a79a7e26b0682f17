use Rattle.std.proofs.Common.{◌≡◌, take}
use Rattle.lx_drives.specs.Marks.{AreResetsToo}
use Rattle.lx_drives.proofs.marks.mark_resets.Given as goal

abbrev pub invariant-loop-domain : goal.invariant-loop-domain
invariant-loop-domain l = (l.domain-items ≡ l.lowered.domains) × AreResetsToo l.lowered (take l.domain-index l.domain-items) l.marks
